-- What the notice shows, fixed by plain numbers: the first and the last molad, the warden's, and an Adar I; each end of a range is in
-- and its neighbour out.
use Rattle.std.specs.Prelude.{◌≡◌, ℕ}
use Rattle.notice.specs.Answers.{notice_answer}

abbrev pub Refused : ℕ → ℕ → ℕ → Type 0
Refused h code n = notice_answer h code ≡ record { refusal = n; day = 0; weekday = 0; hour = 0; minute = 0; part = 0 }

pub record WordsFixed : Type 0 where
  -- Tishri of year 1, whose day alone lies below the range (document 02).
  pub first : notice_answer 1 1 ≡ record { refusal = 0; day = 347997; weekday = 1; hour = 23; minute = 11; part = 6 }
  pub last : notice_answer 9999 13 ≡ record { refusal = 0; day = 4000046; weekday = 3; hour = 13; minute = 1; part = 16 }
  -- Tishri 5762: Monday evening, where the Hebrew day is Tuesday.
  pub wardens : notice_answer 5762 1 ≡ record { refusal = 0; day = 2452170; weekday = 2; hour = 22; minute = 5; part = 16 }
  pub adar : notice_answer 5784 6 ≡ record { refusal = 0; day = 2460350; weekday = 6; hour = 21; minute = 29; part = 5 }
  pub no_year : Refused 0 1 1 × Refused 10000 1 1
  pub no_month_is : Refused 5762 0 2 × Refused 5762 14 2 × Refused 5762 6 2
