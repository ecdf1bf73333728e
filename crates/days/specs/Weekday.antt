-- The weekday of a day number: 1 Sunday to 7 Saturday.
use Rattle.std.specs.Prelude.{cond, ℕ, ◌+◌, ◌%◌}
use Rattle.days.specs.Range.{out_of_range}
use Rattle.days.specs.declared.WeekdayAnswer.{WeekdayAnswer}

abbrev pub weekday : ℕ → ℕ
weekday j = (j + 1) % 7 + 1

-- Refusal 4: the day number lies outside the range.
unfoldable pub weekday_answer : ℕ → WeekdayAnswer
weekday_answer j = cond (out_of_range j) (record { refusal = 4; weekday = 0 }) (record { refusal = 0; weekday = weekday j })
