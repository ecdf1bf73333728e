-- What a caller who lends a loaded sheet is given.
use Rattle.std.specs.Prelude.{◌≡◌, List, [], ◌∷◌, ℕ, zero, suc, ◌+◌, ◌*◌, ◌-◌, ◌/◌, ◌≤◌, ◌<◌, length, get_or}
use Rattle.laws.specs.Joined.{joined}
use Rattle.laws.specs.Promise.{Asked, ◌else◌, Promised}
use Rattle.layout.specs.Reading.{number_at}
use Rattle.rest.specs.Wings.{table_of}
use Rattle.stretches.specs.Stretches.{stretch_rows}
use Rattle.sheet.specs.Sheet.{year_rows, rows_before}
use Rattle.sheet.specs.Promises.{offset_told, rows_told}
use Rattle.accepted.specs.Check.{loaded_refusal}
use Rattle.accepted.specs.Promises.{asked_of_loaded}
use Rattle.loaded.specs.Rows.{rows_answer, rows_of, named_sheet}
use Rattle.loaded.specs.Walk.{row_given, row_after, begun_at}
use Rattle.loaded.specs.declared.RowsAnswer.{RowsAnswer}
use Rattle.loaded.specs.declared.Row.{Row}

-- A year's rows: from the byte on that its index entry tells, 6 for each of its rows, all within the sheet.
abbrev pub OnSheet : List ℕ → ℕ → Type 0
OnSheet bytes year = (number_at bytes 2 2 ≤ year) × (year ≤ number_at bytes 2 2 + number_at bytes 0 2 - 1)

pub record RowsOfYear (bytes : List ℕ) (year : ℕ) (r : RowsAnswer) : Type 0 where
  pub starts : r.offset ≡ offset_told bytes (year - number_at bytes 2 2)
  pub long : r.length ≡ 6 * rows_told bytes (year - number_at bytes 2 2)
  pub inside : r.offset + r.length ≤ length bytes

-- Refused, an empty part.
abbrev pub EmptyPart : ℕ → RowsAnswer → Type 0
EmptyPart n r = (r.offset ≡ 0) × (r.length ≡ 0)

abbrev pub asked_of_rows : ℕ → List ℕ → ℕ → List Asked
asked_of_rows wing bytes year = asked_of_loaded wing bytes (OnSheet bytes year else 1 ∷ [])

abbrev pub PromisedRows : ℕ → List ℕ → ℕ → RowsAnswer → Type 0
PromisedRows wing bytes year = Promised (λ (r : RowsAnswer). r.refusal) (asked_of_rows wing bytes year) (RowsOfYear bytes year) EmptyPart

-- Of two sheets: all is asked of the one that is named, for the wing of its number.
abbrev pub PromisedNamed : ℕ → List ℕ → List ℕ → ℕ → RowsAnswer → Type 0
PromisedNamed named one two = PromisedRows named (named_sheet named one two)

-- The header counts row k, from 0 on, and its six bytes are there; what they tell; and that there is no more.
abbrev pub RowThere : List ℕ → ℕ → Type 0
RowThere bytes k = (k < number_at bytes 4 4) × (16 + 8 * number_at bytes 0 2 + 6 * k + 6 ≤ length bytes)

abbrev pub RowTold : List ℕ → ℕ → Row → Type 0
RowTold bytes k r =
    let at = 16 + 8 * number_at bytes 0 2 + 6 * k in
    (r.more ≡ 1) × ((r.first ≡ number_at bytes at 4) × ((r.length ≡ number_at bytes (at + 4) 1) × (r.wing ≡ number_at bytes (at + 5) 1)))

abbrev pub NoMore : Row → Type 0
NoMore r = (r.more ≡ 0) × ((r.first ≡ 0) × ((r.length ≡ 0) × (r.wing ≡ 0)))

-- A call of `next` at any row, on any bytes: that row, and the walker goes one row on; or no more, and it stays.
pub record StepOf (bytes : List ℕ) (k : ℕ) : Type 0 where
  pub row : RowThere bytes k → RowTold bytes k (row_given bytes k) × (row_after bytes k ≡ k + 1)
  pub none : (¬ RowThere bytes k) → NoMore (row_given bytes k) × (row_after bytes k ≡ k)

-- The row at which a walker from row k on is after n calls of `next`, and what the call after these hands out.
unfoldable pub row_after_calls : List ℕ → ℕ → ℕ → ℕ
row_after_calls bytes k zero = k
row_after_calls bytes k (suc n) = row_after bytes (row_after_calls bytes k n)

abbrev pub handed_out : List ℕ → ℕ → ℕ → Row
handed_out bytes k n = row_given bytes (row_after_calls bytes k n)

-- A walk of a wing's sheet from where it begins: each row that the header counts, in turn, then no more for ever. Begun on
-- bytes that are refused it has ended already, if they are no more than memory can hold.
pub record WalkOf (wing : ℕ) (bytes : List ℕ) : Type 0 where
  pub refusal : (begun_at wing bytes).refusal ≡ loaded_refusal wing bytes
  pub rows : loaded_refusal wing bytes ≡ 0 → (n : ℕ) → n < number_at bytes 4 4 → RowTold bytes n (handed_out bytes (begun_at wing bytes).row n)
  pub no_more : loaded_refusal wing bytes ≡ 0 → (n : ℕ) → number_at bytes 4 4 ≤ n → NoMore (handed_out bytes (begun_at wing bytes).row n)
  pub ended : (¬ (loaded_refusal wing bytes ≡ 0)) → length bytes ≤ 18446744073709551615 → (n : ℕ) → NoMore (handed_out bytes (begun_at wing bytes).row n)

-- The numbers of a row; those that the first n calls of a walk hand out; those of the rows in a part.
abbrev pub row_numbers : Row → List ℕ
row_numbers r = r.first ∷ r.length ∷ r.wing ∷ []

abbrev pub rows_walked : ℕ → List ℕ → ℕ → List ℕ
rows_walked wing bytes n = joined (λ k. row_numbers (handed_out bytes (begun_at wing bytes).row k)) n

abbrev pub rows_in_part : List ℕ → List ℕ
rows_in_part part = joined (λ k. number_at part (6 * k) 4 ∷ number_at part (6 * k + 4) 1 ∷ number_at part (6 * k + 5) 1 ∷ []) (length part / 6)

-- The part that is shown for the sheet's year i, counted from 0. Put together, the rows by year are the rows walked.
abbrev pub year_part : ℕ → List ℕ → ℕ → List ℕ
year_part wing bytes i = rows_of bytes (rows_answer wing bytes (number_at bytes 2 2 + i))

abbrev pub Together : ℕ → List ℕ → Type 0
Together wing bytes = joined (λ i. rows_in_part (year_part wing bytes i)) (number_at bytes 0 2) ≡ rows_walked wing bytes (number_at bytes 4 4)

-- A year's stretches, each with its wing.
abbrev pub with_wing : ℕ → List ℕ → List ℕ
with_wing wing list = joined (λ k. get_or list (2 * k) 0 ∷ get_or list (2 * k + 1) 0 ∷ wing ∷ []) (length list / 2)

-- The bytes are accepted for a sheet and yield what a writer has written for so many years, from year h on: by year, and by
-- walking from the first row to the last.
pub record Yields (wing h years : ℕ) (bytes : List ℕ) : Type 0 where
  pub accepted : loaded_refusal wing bytes ≡ 0
  pub by_year : (i : ℕ) → i < years → ((rows_answer wing bytes (h + i)).refusal ≡ 0) × (rows_of bytes (rows_answer wing bytes (h + i)) ≡ year_rows wing (h + i))
  pub counted : number_at bytes 4 4 ≡ rows_before wing h years
  pub walked : rows_walked wing bytes (rows_before wing h years) ≡ joined (λ i. with_wing wing (stretch_rows (table_of wing) (h + i))) years
