-- Document 01's "Days to check": the rows marked ●, as one table, said of the answers that a caller is given. Its
-- stretches are wing 1's.
use Rattle.std.specs.Prelude.{◌≡◌, List, [], ◌∷◌, ℕ, ℤ, pos, negsuc}
use Rattle.days.specs.Weekday.{weekday_answer}
use Rattle.civil.specs.Calendar.{julian}
use Rattle.civil.specs.Answers.{civil_day}
use Rattle.newyear.specs.Answers.{new_year_answer, year_answer}
use Rattle.newyear.specs.declared.NewYearAnswer.{NewYearAnswer}
use Rattle.rhodes.specs.Answers.{rhodes_answer}
use Rattle.stretch.specs.Answers.{wing_stretch}

-- What a row says: of a year's New Year its day, its weekday or its Julian date; of a molad of Tishri its weekday, hour
-- and part; of a year its length; of a day its stretch.
pub data Marked : Type 0 where
  new_year_day : (year day : ℕ) → Marked
  new_year_weekday : (year weekday : ℕ) → Marked
  new_year_julian : (year : ℕ) (civilYear : ℤ) (month day : ℕ) → Marked
  molad : (year weekday hour part : ℕ) → Marked
  year_days : (year days : ℕ) → Marked
  stretch : (day first length : ℕ) (daysLeft : ℤ) → Marked

-- Both routes answer, and what they answer is so.
abbrev pub BothRoutes : ℕ → (NewYearAnswer → Type 0) → Type 0
BothRoutes h Says =
    (((new_year_answer h).refusal ≡ 0) × Says (new_year_answer h)) × (((rhodes_answer h).refusal ≡ 0) × Says (rhodes_answer h))

abbrev pub Holds : Marked → Type 0
Holds (new_year_day h j) = BothRoutes h (λ r. r.day ≡ j)
Holds (new_year_weekday h w) = BothRoutes h (λ r. r.weekday ≡ w)
Holds (new_year_julian h y m d) = BothRoutes h (λ r. civil_day julian y m d ≡ record { refusal = 0; day = r.day })
Holds (molad h w hour part) =
    BothRoutes h (λ r. (weekday_answer r.molad_day ≡ record { refusal = 0; weekday = w }) × ((r.molad_hour ≡ hour) × (r.molad_part ≡ part)))
Holds (year_days h n) = ((year_answer h).refusal ≡ 0) × ((year_answer h).length ≡ n)
Holds (stretch j f n d) = wing_stretch 1 j ≡ record { refusal = 0; first = f; length = n; days_left = d }

abbrev pub days_to_check : List Marked
days_to_check =
    new_year_day 1 347998 ∷ molad 1 2 5 204
    ∷ new_year_day 2 348353 ∷ molad 2 6 14 0 ∷ year_days 1 355
    ∷ new_year_julian 4257 (pos 496) 9 24 ∷ molad 4257 2 16 644
    ∷ new_year_julian 5025 (pos 1264) 9 23 ∷ molad 5025 2 19 351
    ∷ new_year_day 5745 2445971 ∷ new_year_weekday 5745 5 ∷ molad 5745 3 17 976
    ∷ new_year_day 5762 2452171 ∷ molad 5762 3 4 106
    ∷ new_year_day 5766 2453648 ∷ new_year_weekday 5766 3 ∷ molad 5766 2 16 876
    ∷ new_year_day 5775 2456926 ∷ new_year_weekday 5775 5 ∷ molad 5775 4 14 339
    ∷ new_year_day 9999 3999723 ∷ new_year_day 10000 4000076
    ∷ stretch 2456928 2456926 3 (negsuc 1)
    ∷ stretch 2456929 2456935 1 (pos 6) ∷ []

-- Each row of a table holds.
infixr 5 ◌and◌
pub data AllHold : List Marked → Type 0 where
  done : AllHold []
  ◌and◌ : {r : Marked} {rows : List Marked} → Holds r → AllHold rows → AllHold (r ∷ rows)
