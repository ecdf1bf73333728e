-- The words of this crate, fixed by plain numbers: a promise said in them cannot move with them. Each end of the range is
-- in and its neighbour out, and a week has its seven days.
use Rattle.std.specs.Prelude.{◌≡◌, ◌↔◌, ℕ, ◌+◌, ◌%◌, ◌≤◌}
use Rattle.days.specs.Range.{InRange}
use Rattle.days.specs.Weekday.{weekday, weekday_answer}

pub record WordsFixed : Type 0 where
  pub range : (j : ℕ) → InRange j ↔ ((347998 ≤ j) × (j ≤ 4000075))
  pub weekdays : (j : ℕ) → weekday j ≡ (j + 1) % 7 + 1
  pub first_day_is :
      (weekday_answer 347997 ≡ record { refusal = 4; weekday = 0 })
      × (weekday_answer 347998 ≡ record { refusal = 0; weekday = 2 })
  pub last_day_lem :
      (weekday_answer 4000075 ≡ record { refusal = 0; weekday = 4 })
      × (weekday_answer 4000076 ≡ record { refusal = 4; weekday = 0 })
  -- From New Year 5775, a Thursday, on.
  pub week :
      (weekday_answer 2456926 ≡ record { refusal = 0; weekday = 5 })
      × (weekday_answer 2456927 ≡ record { refusal = 0; weekday = 6 })
      × (weekday_answer 2456928 ≡ record { refusal = 0; weekday = 7 })
      × (weekday_answer 2456929 ≡ record { refusal = 0; weekday = 1 })
      × (weekday_answer 2456930 ≡ record { refusal = 0; weekday = 2 })
      × (weekday_answer 2456931 ≡ record { refusal = 0; weekday = 3 })
      × (weekday_answer 2456932 ≡ record { refusal = 0; weekday = 4 })
