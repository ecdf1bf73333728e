-- The step that compares leaves one answer.
use mathlib.Core.Path.{◌≡◌}
use mathlib.Core.Bool.{Bool}
use mathlib.Core.List.{List}
use Prim.Native.Nat.{ℕ}
use Rattle.laws.proofs.One.{one_result}
use Rattle.content.specs.Content.{content_agrees}

pub agrees_one : (wing : ℕ) (bytes : List ℕ) (h years : ℕ) (r s : Bool) → r ≡ content_agrees wing bytes h years → s ≡ content_agrees wing bytes h years → r ≡ s
agrees_one wing bytes h years = one_result (content_agrees wing bytes h years)
