-- New Years rise, from any year to any later one.
use mathlib.Core.Logic.{by_cases}
use Prim.Native.Nat.{ℕ, zero, suc, ◌+◌, ◌≤◌, ◌<◌}
use native.Mathlib.Omega.{arith}
use native.Mathlib.Nat.{lt_trans, le_of_lt}
use native.Mathlib.Numerals.{add-one}
use native.Mathlib.Decide.{ℕ_discrete}
use Rattle.molad.specs.Years.{last_new_year}
use Rattle.newyear.specs.NewYear.{new_year}
use Rattle.newyear.proofs.Lengths.{rises}

pub rise : (h k : ℕ) → 1 ≤ h → h < k → k ≤ last_new_year + 1 → new_year h < new_year k
rise h zero l p u = absurd (omega arith)
rise h (suc k) l p u =
    let r : new_year k < new_year (suc k) = rw add-one at (rises k (omega arith) (omega arith)) in
    by_cases (ℕ_discrete h k) (λ q. rw q r) (λ q. lt_trans (rise h k l (omega arith) (omega arith)) r)

pub rise_le : (h k : ℕ) → 1 ≤ h → h ≤ k → k ≤ last_new_year + 1 → new_year h ≤ new_year k
rise_le h k l p u = by_cases (ℕ_discrete h k) (λ q. rw q (omega arith)) (λ q. le_of_lt (rise h k l (omega arith) u))
