-- The contract of `sheet_refusal` leaves one answer.
use mathlib.Core.Path.{◌≡◌}
use mathlib.Core.List.{List}
use Prim.Native.Nat.{ℕ}
use Rattle.laws.proofs.One.{one_result}
use Rattle.accepted.specs.Check.{loaded_refusal}

pub refusal_one : (bytes : List ℕ) (wing r s : ℕ) → r ≡ loaded_refusal wing bytes → s ≡ loaded_refusal wing bytes → r ≡ s
refusal_one bytes wing = one_result (loaded_refusal wing bytes)
