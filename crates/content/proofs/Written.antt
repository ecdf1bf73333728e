-- Bytes that tell what a sheet of the wing tells are the bytes that a writer writes.
use mathlib.Core.Path.{◌≡◌, ◌∙◌, sym}
use mathlib.Core.List.{List, ◌++◌}
use Prim.Native.Nat.{ℕ, ◌+◌, ◌*◌, ◌≤◌, ◌<◌}
use native.Mathlib.Omega.{arith}
use lib.ListN.{length, get_or}
use Rattle.laws.specs.Joined.{joined}
use Rattle.laws.proofs.Joins.{total_alike}
use Rattle.layout.specs.Layout.{little_endian, index_offset, rows_offset, header_bytes, entry_bytes, row_bytes}
use Rattle.layout.specs.Reading.{Bytes}
use Rattle.layout.proofs.Sizes.{header_long}
use Rattle.layout.proofs.Standing.{Stands, stands_both, stands_each, stands_whole, stands_number, stands_three}
use Rattle.newyear.specs.NewYear.{year_length}
use Rattle.rest.specs.Wings.{table_of}
use Rattle.stretches.specs.Stretches.{stretch_rows}
use Rattle.sheet.specs.Sheet.{row_of, rows_in, year_rows, rows_before, sheet_size, entry_of, sheet}
use Rattle.sheet.specs.Promises.{offset_told, rows_told, length_told, rows_told_before, SheetOf}
use Rattle.sheet.proofs.Sizes.{rows_long, index_long, years_long, front_long, sheet_long}
use Rattle.sheet.proofs.Years.{rows_more, rows_grow}
use Rattle.content.proofs.Calendars.{CalendarsYear}
use Rattle.content.proofs.Told.{sheet_tells}

module _ (wing h years : ℕ) (bytes : List ℕ) (all : Bytes bytes) (from : 1 ≤ h) (to : h + years ≤ 10000) (s : SheetOf wing h years bytes) where
  told : (i : ℕ) → i < years → CalendarsYear wing h bytes i
  told = sheet_tells wing h years bytes from to s

  before : (n : ℕ) → n ≤ years → rows_told_before bytes n ≡ rows_before wing h n
  unfolding rows_told_before rows_before
  before n p = total_alike (rows_told bytes) (λ i. rows_in wing (h + i)) n (λ i q. (told i (omega arith)).many)

  long : length bytes ≡ rows_offset years + 6 * rows_before wing h years
  long = rw (← before years (omega arith)) s.all

  -- Where a year's rows stand, and that they stand within the bytes.
  place : (i : ℕ) → i < years → offset_told bytes i ≡ rows_offset years + 6 * rows_before wing h i
  place i p = rw (← before i (omega arith)) (s.offsets i p)

  fits : (i : ℕ) → i < years → rows_offset years + 6 * rows_before wing h i + 6 * rows_in wing (h + i) ≤ length bytes
  fits i p = omega (arith, long, rows_more wing h i, rows_grow wing h (i + 1) years (omega arith))

  -- The header, an entry of the index, a row.
  header_stands : Stands bytes 0 (header_bytes years h (rows_before wing h years))
  unfolding header_bytes little_endian
  header_stands =
      let rows = s.rows_told_is ∙ before years (omega arith) in
      let first = little_endian 2 years ++ little_endian 2 h ++ little_endian 4 (rows_before wing h years) in
      let three = stands_three bytes all 0 2 2 4 years h (rows_before wing h years) (omega (arith, long)) s.years_told_is s.first_told_is rows in
      let four = stands_both bytes 0 8 first (little_endian 4 index_offset) three (stands_number bytes all 8 4 index_offset (omega (arith, long)) s.index_offset_is) (omega arith) in
      stands_both bytes 0 12 (first ++ little_endian 4 index_offset) (little_endian 4 (rows_offset years)) four
      (stands_number bytes all 12 4 (rows_offset years) (omega (arith, long)) s.rows_offset_is) (omega arith)

  entry_stands : (i : ℕ) → i < years → Stands bytes (16 + 8 * i) (entry_of wing h years i)
  unfolding entry_of entry_bytes offset_told rows_told length_told
  entry_stands i p =
      let t = told i p in
      stands_three bytes all (16 + 8 * i) 4 2 2 (rows_offset years + 6 * rows_before wing h i) (rows_in wing (h + i)) (year_length (h + i)) (omega (arith, long)) (place i p) t.many t.long

  row_stands : (i k : ℕ) → i < years → k < rows_in wing (h + i) → Stands bytes (rows_offset years + 6 * rows_before wing h i + 6 * k) (row_of wing (stretch_rows (table_of wing) (h + i)) k)
  unfolding row_of row_bytes
  row_stands i k p q =
      let list = stretch_rows (table_of wing) (h + i) in
      let r = rw (place i p) at ((told i p).each k q) in
      stands_three bytes all (rows_offset years + 6 * rows_before wing h i + 6 * k) 4 1 1 (get_or list (2 * k) 0) (get_or list (2 * k + 1) 0) wing (omega (arith, fits i p)) r.0 r.1.0 r.1.1

  -- The index, a year's rows, all rows.
  index_stands : Stands bytes 16 (joined (entry_of wing h years) years)
  index_stands = stands_each bytes 16 (entry_of wing h years) years (λ i p. rw (index_long wing h years i) (entry_stands i p))

  year_stands : (i : ℕ) → i < years → Stands bytes (rows_offset years + 6 * rows_before wing h i) (year_rows wing (h + i))
  unfolding year_rows
  year_stands i p =
      let list = stretch_rows (table_of wing) (h + i) in
      stands_each bytes (rows_offset years + 6 * rows_before wing h i) (row_of wing list) (rows_in wing (h + i)) (λ k q. rw (rows_long wing list k) (row_stands i k p q))

  rows_stand : Stands bytes (rows_offset years) (joined (λ i. year_rows wing (h + i)) years)
  rows_stand = stands_each bytes (rows_offset years) (λ i. year_rows wing (h + i)) years (λ i p. rw (years_long wing h i) (year_stands i p))

  pub the_writers : bytes ≡ sheet wing h years
  unfolding sheet sheet_size
  the_writers =
      let header = header_bytes years h (rows_before wing h years) in
      let index = joined (entry_of wing h years) years in
      let front = stands_both bytes 0 16 header index header_stands index_stands (omega (arith, header_long years h (rows_before wing h years))) in
      stands_whole bytes (sheet wing h years)
      (stands_both bytes 0 (rows_offset years) (header ++ index) _ front rows_stand (omega (arith, front_long wing h years (rows_before wing h years))))
      (long ∙ sym (sheet_long wing h years))
