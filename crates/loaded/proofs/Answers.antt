-- What the answers about a loaded sheet promise, and that their contracts leave one answer.
use mathlib.Core.Path.{◌≡◌, refl}
use mathlib.Core.Bool.{cond}
use mathlib.Core.List.{List, []}
use mathlib.Core.Logic.{by_cases}
use Prim.Native.Nat.{ℕ, ◌+◌, ◌*◌, ◌-◌, ◌≤◌}
use native.Mathlib.Omega.{arith}
use native.Mathlib.Decide.{ℕ_discrete}
use lib.ListN.{length}
use Rattle.laws.proofs.One.{one_result}
use Rattle.laws.proofs.Promises.{ranged, asks, answered}
use Rattle.sheet.specs.Promises.{offset_told, rows_told}
use Rattle.accepted.specs.Check.{years_told, first_told, loaded_refusal}
use Rattle.loaded.specs.Rows.{no_rows, off_sheet, rows_answer, rows_of, named_sheet, named_answer}
use Rattle.loaded.specs.Promises.{EmptyPart, PromisedRows, PromisedNamed}
use Rattle.loaded.specs.Walk.{row_given, step_at, begun_at}
use Rattle.loaded.specs.declared.RowsAnswer.{RowsAnswer}
use Rattle.loaded.specs.declared.Row.{Row}
use Rattle.loaded.specs.declared.Begun.{Begun}
use Rattle.loaded.specs.declared.Stepped.{Stepped}
use Rattle.accepted.proofs.Accepted.{where_accepted, where_refused, loaded_promised, rows_inside}

module _ (wing : ℕ) (bytes : List ℕ) (year : ℕ) where
  abbrev told : RowsAnswer
  told = record { refusal = 0; offset = offset_told bytes (year - first_told bytes); length = 6 * rows_told bytes (year - first_told bytes) }

  pub rows_refused : (¬ (loaded_refusal wing bytes ≡ 0)) → rows_answer wing bytes year ≡ no_rows (loaded_refusal wing bytes)
  unfolding rows_answer
  rows_refused = where_refused wing bytes no_rows _

  pub rows_of_sheet : loaded_refusal wing bytes ≡ 0 → rows_answer wing bytes year ≡ cond (off_sheet bytes year) (no_rows 1) told
  unfolding rows_answer
  rows_of_sheet = where_accepted wing bytes no_rows _

  -- 15 to 19 and 1 are asked in turn.
  pub rows_promised : PromisedRows wing bytes year (rows_answer wing bytes year)
  unfolding rows_answer
  rows_promised =
      loaded_promised wing bytes no_rows (cond (off_sheet bytes year) (no_rows 1) told) (λ n. refl) (λ n. (refl, refl)) (λ y fits.
      asks (no_rows 1) (ranged (first_told bytes) (first_told bytes + years_told bytes - 1) year) (omega arith) refl (refl, refl) (λ on.
      answered refl (record { starts = refl; long = refl; inside = rows_inside bytes fits (year - first_told bytes) (omega (arith, y.0.0, on.0, on.1)) })))

  -- What is answered lies within the sheet, refused or not.
  pub within_sheet : (rows_answer wing bytes year).offset + (rows_answer wing bytes year).length ≤ length bytes
  within_sheet =
      let n = (rows_answer wing bytes year).refusal in
      by_cases (ℕ_discrete n 0)
      (λ z. (rows_promised.values (rows_promised.done.0 z)).inside)
      (λ u. let e = rows_promised.besides n ((rows_promised.refused n (omega arith)).0 refl) in omega (arith, e.0, e.1))

  pub rows_one : (r s : RowsAnswer) → r ≡ rows_answer wing bytes year → s ≡ rows_answer wing bytes year → r ≡ s
  rows_one = one_result (rows_answer wing bytes year)

-- An empty part has no bytes.
pub empty_part : (bytes : List ℕ) (n : ℕ) (place : RowsAnswer) → EmptyPart n place → rows_of bytes place ≡ []
empty_part bytes n place e = rw e.1

-- Of two sheets: all is asked of the one that is named.
module _ (named : ℕ) (one two : List ℕ) (year : ℕ) where
  pub named_promised : PromisedNamed named one two year (named_answer named one two year)
  named_promised = rows_promised named (named_sheet named one two) year

  pub named_one : (r s : RowsAnswer) → r ≡ named_answer named one two year → s ≡ named_answer named one two year → r ≡ s
  named_one = one_result (named_answer named one two year)

-- Number 1 names the first sheet, wing 1's, and number 2 the second, wing 2's, and the other is not looked at. So it is of the
-- places in memory.
pub names_first : (one two : List ℕ) (year : ℕ) → named_answer 1 one two year ≡ rows_answer 1 one year
names_first one two year = refl

pub names_second : (one two : List ℕ) (year : ℕ) → named_answer 2 one two year ≡ rows_answer 2 two year
names_second one two year = refl

pub named_place : (one two : ℕ) → (named_sheet 1 one two ≡ one) × (named_sheet 2 one two ≡ two)
named_place one two = (refl, refl)

-- One answer of each, and one part.
module _ (bytes : List ℕ) where
  pub begun_one : (wing : ℕ) (r s : Begun) → r ≡ begun_at wing bytes → s ≡ begun_at wing bytes → r ≡ s
  begun_one wing = one_result (begun_at wing bytes)

  pub step_one : (k : ℕ) (r s : Stepped) → r ≡ step_at bytes k → s ≡ step_at bytes k → r ≡ s
  step_one k = one_result (step_at bytes k)

  pub given_one : (k : ℕ) (r s : Row) → r ≡ row_given bytes k → s ≡ row_given bytes k → r ≡ s
  given_one k = one_result (row_given bytes k)

  -- The bytes of a part.
  pub part_one : (place : RowsAnswer) (r s : List ℕ) → r ≡ rows_of bytes place → s ≡ rows_of bytes place → r ≡ s
  part_one place = one_result (rows_of bytes place)
