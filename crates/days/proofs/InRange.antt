-- A day that the range test lets pass lies in the range.
use mathlib.Core.Path.{◌≡◌, sym, ◌∙◌}
use mathlib.Core.Bool.{Bool, false}
use Prim.Native.Nat.{ℕ, ◌≤◌}
use Rattle.laws.proofs.Tests.{within}
use Rattle.days.specs.Range.{first_day, last_day, out_of_range}

pub in_range : {told : Bool} (j : ℕ) → told ≡ out_of_range j → told ≡ false → (first_day ≤ j) × (j ≤ last_day)
in_range j e f = within first_day last_day j (sym e ∙ f)
