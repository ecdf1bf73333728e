-- The words of this crate are these numbers, worked out from New Years.
use mathlib.Core.Path.{◌≡◌, refl}
use mathlib.Core.Bool.{true}
use mathlib.Core.List.{List}
use mathlib.Core.Logic.{inl, inr}
use Prim.Native.Nat.{ℕ, ◌+◌, ◌*◌, ◌-◌, ◌≤◌, ◌<◌}
use native.Mathlib.Omega.{arith}
use Rattle.laws.specs.Begun.{begun}
use Rattle.laws.specs.Joined.{total}
use Rattle.laws.specs.Runs.{every, outside}
use Rattle.newyear.specs.NewYear.{new_year}
use Rattle.newyear.proofs.Quick.{quick, new_year_quick}
use Rattle.hebrew.specs.Months.{month_length, days_before}
use Rattle.hebrew.specs.Dates.{month_of}
use Rattle.hebrew.specs.Steps.{year_date, tomorrow}
use Rattle.rest.specs.Wings.{IsWing, table_of}
use Rattle.stretches.proofs.OfKind.{entries}
use Rattle.layout.specs.Layout.{rows_offset}
use Rattle.layout.specs.Reading.{worth, number_at}
use Rattle.sheet.specs.Sheet.{most_years, rows_in, rows_before, sheet}
use Rattle.sheet.specs.Promises.{offset_told, rows_told, length_told, rows_told_before, SheetOf}
use Rattle.sheet.proofs.Fixed.{counted}
use Rattle.sheet.proofs.ReadBack.{entry_told, sheet_of}
use Rattle.accepted.specs.Check.{index_placed, placed, loaded_refusal}
use Rattle.loaded.specs.Rows.{no_rows, rows_answer}
use Rattle.loaded.specs.Walk.{ended_row, has_row, row_given, row_after, begun_at}
use Rattle.loaded.specs.Fixed.{WordsFixed}
use Rattle.accepted.proofs.Accepted.{where_accepted}
use Rattle.accepted.proofs.Exactly.{sheet_accepted}
use Rattle.loaded.proofs.Answers.{rows_of_sheet}
use Rattle.loaded.proofs.Together.{year_place}

-- A sheet that is written for so many years, from year h on.
module _ (wing h years : ℕ) (w : IsWing wing) (some : 1 ≤ years) (most : years ≤ most_years) (from : 1 ≤ h) (to : h + years ≤ 10000) where
  abbrev bytes : List ℕ
  bytes = sheet wing h years

  told : SheetOf wing h years bytes
  told = sheet_of wing h years w some most from to

  accepted : loaded_refusal wing bytes ≡ 0
  accepted = sheet_accepted wing h years bytes w some most from to told

  pub rows_at : (i : ℕ) → i < years → rows_answer wing bytes (h + i) ≡ record { refusal = 0; offset = rows_offset years + 6 * rows_before wing h i; length = 6 * rows_in wing (h + i) }
  rows_at i p =
      let e = entry_told wing h years w some most from to i p in
      let place = rw told.first_told_is at (year_place wing bytes accepted i (rw told.years_told_is p)) in
      rw (e.0, e.1.0) at place

  pub rows_off : (year : ℕ) → outside h (h + years - 1) year ≡ true → rows_answer wing bytes year ≡ no_rows 1
  rows_off year o = rw (rows_of_sheet wing bytes year accepted, told.first_told_is, told.years_told_is, o)

  pub begins : begun_at wing bytes ≡ record { refusal = 0; row = 0 }
  unfolding begun_at
  begins = where_accepted wing bytes (λ n. record { refusal = n; row = ended_row }) (record { refusal = 0; row = 0 }) accepted

pub words_fixed : WordsFixed
unfolding quick table_of year_date month_of begun days_before month_length tomorrow entries rows_before total every number_at worth offset_told rows_told length_told rows_told_before index_placed placed loaded_refusal begun_at rows_answer has_row row_given row_after
words_fixed =
    let n5775 : new_year 5775 ≡ 2456926 = new_year_quick 5775 (omega arith) in
    let n5776 : new_year 5776 ≡ 2457280 = new_year_quick 5776 (omega arith) in
    let n5777 : new_year 5777 ≡ 2457665 = new_year_quick 5777 (omega arith) in
    let c5775 = counted 1 5775 2456926 2457280 53 (inl refl) (omega arith) n5775 n5776 refl in
    let g5775 = counted 2 5775 2456926 2457280 51 (inr refl) (omega arith) n5775 n5776 refl in
    let g5776 = counted 2 5776 2457280 2457665 59 (inr refl) (omega arith) n5776 n5777 refl in
    let of_one = rw c5775 at (rows_at 1 5775 1 (inl refl) (omega arith) (omega arith) (omega arith) (omega arith) 0 (omega arith)) in
    let of-guest = rw (g5775, g5776) at (rows_at 2 5775 3 (inr refl) (omega arith) (omega arith) (omega arith) (omega arith) 1 (omega arith)) in
    let off-one = rows_off 1 5775 1 (inl refl) (omega arith) (omega arith) (omega arith) (omega arith) in
    record {
      rows = (of_one, of-guest);
      off_sheet_is = (off-one 5774 refl, off-one 5776 refl, rows_off 2 5775 3 (inr refl) (omega arith) (omega arith) (omega arith) (omega arith) 5778 refl);
      named = (of_one, of-guest, refl, refl);
      walk = (
        begins 1 5775 1 (inl refl) (omega arith) (omega arith) (omega arith) (omega arith),
        begins 2 5775 3 (inr refl) (omega arith) (omega arith) (omega arith) (omega arith),
        refl,
        refl,
        refl,
        refl,
        refl,
        refl,
        refl,
      );
    }
