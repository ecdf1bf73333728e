-- What the refusal promises of bytes, and what so holds of those that are accepted.
use mathlib.Core.Path.{◌≡◌, refl}
use mathlib.Core.List.{List}
use Prim.Native.Nat.{ℕ, ◌≤◌}
use lib.ListN.{length}
use Rattle.laws.proofs.Promises.{answered}
use Rattle.accepted.specs.Check.{loaded_refusal}
use Rattle.accepted.specs.Promises.{WritersYears, Placed, OfCalendar, PromisedRefusal}
use Rattle.accepted.proofs.Accepted.{loaded_promised}

pub refusal_promised : (wing : ℕ) (bytes : List ℕ) → PromisedRefusal wing bytes (loaded_refusal wing bytes)
unfolding loaded_refusal
refusal_promised wing bytes = loaded_promised wing bytes (λ n. n) 0 (λ n. refl) (λ n. tt) (λ _ _. answered refl tt)

-- Bytes that are accepted.
pub accepted :
    (wing : ℕ) (bytes : List ℕ) → loaded_refusal wing bytes ≡ 0 → (16 ≤ length bytes) × (WritersYears bytes × (Placed bytes × OfCalendar wing bytes))
accepted wing bytes z = let m = ((refusal_promised wing bytes).done.0 z).1 in (m.0, (m.1.0, (m.1.1.0, m.1.1.1.0)))
