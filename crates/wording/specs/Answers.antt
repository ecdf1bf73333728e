-- What `notice_on_lines` and `shown_date` answer.
use Rattle.std.specs.Prelude.{cond, ◌||◌, List, ℕ, ◌-◌, eqb, negsuc}
use Rattle.line.specs.Line.{first_line, after_line, decimal}
use Rattle.line.specs.Answers.{no_number}
use Rattle.days.specs.Range.{first_day}
use Rattle.civil.specs.Calendar.{gregorian}
use Rattle.civil.specs.Answers.{civil_date}
use Rattle.civil.specs.declared.CivilDate.{CivilDate}
use Rattle.molad.specs.Years.{out_of_years, leap}
use Rattle.molad.specs.Molad.{no_month}
use Rattle.notice.specs.Answers.{no_notice, notice_answer}
use Rattle.notice.specs.declared.NoticeAnswer.{NoticeAnswer}

-- Refusal 1: the first line is not one to five figures, or they are no year. 2: the second line is not one to five
-- figures, or they are no month of the year.
unfoldable pub notice_on : List ℕ → List ℕ → NoticeAnswer
notice_on first second =
    cond (no_number first || out_of_years (decimal first)) (no_notice 1)
    (cond (no_number second || no_month (leap (decimal first)) (decimal second)) (no_notice 2)
    (notice_answer (decimal first) (decimal second)))

-- The year is on the input's first line and the month's code on the second.
unfoldable pub notice_on_lines : List ℕ → NoticeAnswer
notice_on_lines input = notice_on (first_line input) (first_line (after_line input))

-- The first day that a notice shows is the one before the range (document 02): 347,997.
abbrev pub first_shown : ℕ
first_shown = first_day - 1

-- It is the day before 7 September −3760, the first day's date; `negsuc 3759` is −3760.
abbrev pub first_shown_date : CivilDate
first_shown_date = record { refusal = 0; year = negsuc 3759; month = 9; day = 6 }

-- The Gregorian date of a day of the range or of the one before it. Refusal 4, by `civil_date`: the day is another.
unfoldable pub shown_date : ℕ → CivilDate
shown_date j = cond (eqb j first_shown) first_shown_date (civil_date gregorian j)
