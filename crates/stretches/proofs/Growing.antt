-- The list of a year's runs, one day more at a time.
use mathlib.Core.Path.{◌≡◌}
use mathlib.Core.Bool.{Bool, true, false, ◌&&◌, not, cond}
use mathlib.Core.List.{[], ◌∷◌, ◌++◌, append-nil}
use Prim.Native.Nat.{ℕ, zero, suc, ◌+◌, ◌-◌, ◌≤◌}
use native.Mathlib.Numerals.{add-one}
use native.Mathlib.Omega.{arith}
use lib.Dec.{ltb}
use lib.ListN.{length, length-append}
use Rattle.laws.specs.Search.{run_start}
use Rattle.laws.proofs.Found.{start_tells}
use Rattle.stretches.specs.Steps.{run_before, rows_at}

module _ (rest : ℕ → Bool) where
  -- A run has ended on the day before day k.
  abbrev pub ends : ℕ → Bool
  ends k = not (rest k) && ltb 0 (run_before rest k)

  -- The run before the next day is a day longer, or none.
  run_step : (b : Bool) (s k : ℕ) → s ≤ k → suc k - cond b s (suc k) ≡ cond b (k - s + 1) 0
  run_step true s k p = omega arith
  run_step false s k p = omega arith

  pub run_more : (k : ℕ) → run_before rest (k + 1) ≡ cond (rest k) (run_before rest k + 1) 0
  unfolding run_before run_start
  run_more k = rw (add-one k) (run_step (rest k) (run_start rest k) k (start_tells rest k).high)

  pub run_few : (k : ℕ) → run_before rest k ≤ k
  unfolding run_before
  run_few k = omega arith

  module _ (j : ℕ) where
    pub rows_yes : (k : ℕ) → ends k ≡ true → rows_at rest j (k + 1) ≡ rows_at rest j k ++ ((j + k - run_before rest k) ∷ run_before rest k ∷ [])
    unfolding rows_at
    rows_yes k e = rw (add-one, e)

    pub rows_no : (k : ℕ) → ends k ≡ false → rows_at rest j (k + 1) ≡ rows_at rest j k
    unfolding rows_at
    rows_no k e = rw (add-one, e, append-nil)

    -- The list grows.
    grows : (k : ℕ) → length (rows_at rest j k) ≤ length (rows_at rest j (suc k))
    unfolding rows_at
    grows k = simp length-append (omega arith)

    pub rows_grow : (k n : ℕ) → length (rows_at rest j k) ≤ length (rows_at rest j (k + n))
    rows_grow k zero = let e : k + 0 ≡ k = omega arith in rw e (omega arith)
    rows_grow k (suc n) = let e : k + suc n ≡ suc (k + n) = omega arith in rw e (omega (arith, rows_grow k n, grows (k + n)))
