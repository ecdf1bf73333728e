-- A search through the days of a year, one day more at a time; and what a date of the walk tells.
use mathlib.Core.Path.{◌≡◌, sym, ◌∙◌, ap}
use mathlib.Core.Bool.{Bool, true, false}
use mathlib.Core.List.{List}
use Prim.Native.Nat.{ℕ, suc, ◌+◌, ◌-◌, ◌≤◌, ◌<◌}
use native.Mathlib.Omega.{arith}
use Rattle.laws.specs.Search.{seek, run_start}
use Rattle.laws.proofs.Found.{seek_here, seek_on}
use Rattle.newyear.specs.Kinds.{IsLength}
use Rattle.hebrew.specs.Steps.{year_date}
use Rattle.hebrew.proofs.Walked.{date_small}
use Rattle.rest.specs.Steps.{rest_on, rest_at}
use Rattle.hebrew.specs.declared.YearDate.{YearDate}

module _ (p : ℕ → Bool) (len y : ℕ) where
  pub search_here : y < len → p y ≡ true → seek p (len - y) y ≡ y
  search_here h e = let s : len - y ≡ suc (len - (y + 1)) = omega arith in rw s (seek_here p (len - (y + 1)) y e)

  pub search_on : y < len → p y ≡ false → seek p (len - y) y ≡ seek p (len - (y + 1)) (y + 1)
  search_on h e =
      let s : len - y ≡ suc (len - (y + 1)) = omega arith in
      let t : y + 1 ≡ suc y = omega arith in
      rw (s, seek_on p (len - (y + 1)) y e, t)

  pub search_end : len ≤ y → seek p (len - y) y ≡ y
  unfolding seek
  search_end h = let s : len - y ≡ 0 = omega arith in rw s

-- The start of a run, one day back.
start_on : (p : ℕ → Bool) (k : ℕ) → p k ≡ true → run_start p (suc k) ≡ run_start p k
unfolding run_start
start_on p k e = rw e

start_here : (p : ℕ → Bool) (k : ℕ) → p k ≡ false → run_start p (suc k) ≡ suc k
unfolding run_start
start_here p k e = rw e

module _ (p : ℕ → Bool) (k : ℕ) (l : 0 < k) where
  up : suc (k - 1) ≡ k
  up = omega arith

  pub back_on : p (k - 1) ≡ true → run_start p k ≡ run_start p (k - 1)
  back_on e = rw up at (start_on p (k - 1) e)

  pub back_here : p (k - 1) ≡ false → run_start p k ≡ k
  back_here e = rw up at (start_here p (k - 1) e)

-- A date of the walk.
pub at_date : (len x : ℕ) (date : YearDate) → date ≡ year_date len x → (date.after ≡ x) × (date ≡ year_date len date.after)
unfolding year_date
at_date len x date e = let a = ap (λ (d : YearDate). d.after) e in (a, e ∙ ap (year_date len) (sym a))

module _ (len : ℕ) (date : YearDate) (e : date ≡ year_date len date.after) where
  pub walked_small : IsLength len → date.after ≤ len → (date.after ≤ 400) × ((date.month ≤ 13) × (date.day ≤ 400))
  walked_small k u = rw (← e) at (date_small len date.after k u)

  pub walked_rests : (table : List ℕ) (w : ℕ) → rest_on table w date ≡ rest_at table w len date.after
  unfolding rest_at
  walked_rests table w = rw (← e)
