-- The contract of each step leaves one result.
use mathlib.Core.Path.{◌≡◌, refl, sym, ◌∙◌}
use mathlib.Core.List.{List}
use Prim.Native.Nat.{ℕ}
use Rattle.laws.proofs.One.{one_result}
use Rattle.hebrew.specs.Rows.{row_day}
use Rattle.lists.specs.declared.ListAnswer.{ListAnswer}
use Rattle.lists_code.specs.Handed.{TellsEach, HandsOut}

pub row_day_one : (h row r s : ℕ) → r ≡ row_day h row → s ≡ row_day h row → r ≡ s
row_day_one h row = one_result (row_day h row)

-- Where one number is told of each row.
pub list_days_one :
    (Told : ℕ → ℕ → Type 0) (table before after after' : List ℕ) (r s : ListAnswer) (day : ℕ → ℕ) → TellsEach Told table day →
    HandsOut Told table before after r → HandsOut Told table before after' s → (r ≡ s) × (after ≡ after')
list_days_one Told table before after after' r s day each p q =
    let a = p day each 1 refl in
    let b = q day each 1 refl in
    (a.0 ∙ sym b.0, a.1 ∙ sym b.1)
