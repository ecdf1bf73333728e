-- What is told of a year's fasts, and of the fast ahead of a day.
use Rattle.std.specs.Prelude.{◌≡◌, true, cond, List, [], ◌∷◌, ℕ, ◌+◌, ◌-◌, ◌≤◌, ◌<◌, eqb, length, get_or}
use Rattle.laws.specs.Promise.{◌else◌, Promised}
use Rattle.laws.specs.Runs.{elem}
use Rattle.days.specs.Range.{last_day}
use Rattle.days.specs.Weekday.{weekday}
use Rattle.molad.specs.Years.{InYears}
use Rattle.newyear.specs.NewYear.{InYear}
use Rattle.hebrew.specs.Dates.{day_number, date_of}
use Rattle.lists.specs.Lists.{DaysRise}
use Rattle.lists.specs.declared.ListAnswer.{ListAnswer}
use Rattle.fasts.specs.Ahead.{FastOn}
use Rattle.fasts.specs.declared.Ahead.{Ahead}

-- A fast of day j is kept on day n: on its own unless that is a Saturday, and then on the Sunday, or on the Thursday before.
abbrev pub OrSunday : ℕ → ℕ → Type 0
OrSunday j n = (¬ (weekday j ≡ 7) → n ≡ j) × (weekday j ≡ 7 → (n ≡ j + 1) × (weekday n ≡ 1))

abbrev pub OrThursday : ℕ → ℕ → Type 0
OrThursday j n = (¬ (weekday j ≡ 7) → n ≡ j) × (weekday j ≡ 7 → (n + 2 ≡ j) × (weekday n ≡ 5))

-- The month codes of the five.
abbrev pub fast_months : List ℕ
fast_months = 1 ∷ 4 ∷ 7 ∷ 11 ∷ 12 ∷ []

-- The day number of a date of year h.
abbrev pub on : ℕ → ℕ → ℕ → ℕ
on h code d = day_number (record { year = h; month = code; day = d })

-- The list is that of year h's fasts.
pub record FastsOf (h : ℕ) (list : List ℕ) : Type 0 where
  pub five : length list ≡ 5
  pub rising : DaysRise list
  pub tishri : OrSunday (on h 1 3) (get_or list 0 0)
  -- Tevet's is always kept on its date, which is never a Saturday.
  pub tevet : (get_or list 1 0 ≡ on h 4 10) × (¬ (weekday (on h 4 10) ≡ 7))
  pub adar : OrThursday (on h 7 13) (get_or list 2 0)
  pub tammuz : OrSunday (on h 11 17) (get_or list 3 0)
  pub av : OrSunday (on h 12 9) (get_or list 4 0)
  -- No fast is kept on a Saturday, nor outside its month.
  pub no_saturday : (i : ℕ) → i < 5 → ¬ (weekday (get_or list i 0) ≡ 7)
  pub in_month : (i : ℕ) → i < 5 → ((date_of (get_or list i 0)).year ≡ h) × ((date_of (get_or list i 0)).month ≡ get_or fast_months i 0)
  -- They are the year's fasts, and it has no other.
  pub fasts : (i : ℕ) → i < 5 → FastOn (get_or fast_months i 0) (get_or list i 0)
  pub no_other : (code n : ℕ) → FastOn code n → InYear n h → (elem n list ≡ true) × ((date_of n).month ≡ code)

-- What `fasts` promises.
abbrev pub PromisedFasts : ℕ → List ℕ → ListAnswer → Type 0
PromisedFasts h buffer =
    Promised (λ (r : ListAnswer). r.refusal) (InYears h else 1 ∷ (5 ≤ length buffer) else 10 ∷ [])
    (λ r. r.count ≡ 5) (λ n r. r.count ≡ cond (eqb n 10) 5 0)

-- What is told of the fast ahead of day j: its month code and the days left until it, and no fast comes between; on the last fifty
-- days of the range, on which none is kept, zeros and the flag.
pub record FastTold (j : ℕ) (f : Ahead) : Type 0 where
  pub ahead :
      j ≤ last_day - 50 →
      (f.none ≡ 0) × (FastOn f.month (j + f.left) × ((code n : ℕ) → FastOn code n → j ≤ n → j + f.left ≤ n))
  pub last_fifty : last_day - 50 < j → (f.none ≡ 1) × ((f.month ≡ 0) × ((f.left ≡ 0) × ((code n : ℕ) → FastOn code n → n < j)))
