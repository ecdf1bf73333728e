-- What a caller of `rest_days` is given: the list of a year's rest days, by a table; and the dates of each wing.
use Rattle.std.specs.Prelude.{◌≡◌, true, ◌||◌, cond, List, [], ◌∷◌, ℕ, ◌<◌, eqb, length, get_or}
use Rattle.laws.specs.Runs.{elem}
use Rattle.days.specs.Weekday.{weekday}
use Rattle.newyear.specs.NewYear.{InYear}
use Rattle.hebrew.specs.Dates.{date_of}
use Rattle.hebrew.specs.Rows.{row_date}
use Rattle.lists.specs.Lists.{DaysRise}
use Rattle.rest.specs.Table.{in_table, rest_day}

pub record RestDaysOf (table : List ℕ) (h : ℕ) (list : List ℕ) : Type 0 where
  -- In the table's order, and rising.
  pub as_many : length list ≡ length table
  pub rising : DaysRise list
  pub in_order : (i : ℕ) → i < length table → date_of (get_or list i 0) ≡ row_date h (get_or table i 0)
  -- Each day of the list is a rest day of the year.
  pub rests : (j : ℕ) → elem j list ≡ true → InYear j h × (rest_day table j ≡ true)
  -- A day of the year is in the list exactly if its date is in the table; so a rest day is a Saturday or in the list.
  pub dated : (j : ℕ) → InYear j h → elem j list ≡ in_table table (date_of j)
  pub no_other : (j : ℕ) → InYear j h → rest_day table j ≡ (eqb (weekday j) 7 || elem j list)

-- Wing 1 has eight rest days, the guest wing thirteen.
abbrev pub rest_count : ℕ → ℕ
rest_count wing = cond (eqb wing 1) 8 13

-- They are these dates; `on` tells the day number of a month code and a day of the month.
pub record KeptBy (wing : ℕ) (on : ℕ → ℕ → ℕ) (list : List ℕ) : Type 0 where
  pub one : wing ≡ 1 → list ≡ on 1 1 ∷ on 1 2 ∷ on 1 10 ∷ on 1 15 ∷ on 1 22 ∷ on 8 15 ∷ on 8 21 ∷ on 10 6 ∷ []
  pub guest :
      wing ≡ 2 →
      list
      ≡ on 1 1 ∷ on 1 2 ∷ on 1 10 ∷ on 1 15 ∷ on 1 16 ∷ on 1 22 ∷ on 1 23
      ∷ on 8 15 ∷ on 8 16 ∷ on 8 21 ∷ on 8 22 ∷ on 10 6 ∷ on 10 7 ∷ []
