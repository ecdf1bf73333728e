-- What a reader finds on a sheet: header, index and rows, with every number whole.
use mathlib.Core.Path.{◌≡◌, sym, ◌∙◌}
use mathlib.Core.List.{List, ◌++◌}
use mathlib.Core.Logic.{⊎_elim}
use Prim.Native.Nat.{ℕ, ◌+◌, ◌*◌, ◌≤◌, ◌<◌}
use native.Mathlib.Omega.{arith}
use lib.ListN.{get_or}
use Rattle.laws.specs.Joined.{joined}
use Rattle.laws.proofs.Joins.{Holds, holds_in, holds_first, holds_second, holds_each, joined_alike, total_alike, total_most}
use Rattle.days.specs.Range.{last_day}
use Rattle.layout.specs.Layout.{little_endian, index_offset, rows_offset, header_bytes, entry_bytes, row_bytes}
use Rattle.layout.specs.Reading.{number_at}
use Rattle.layout.proofs.Sizes.{header_long}
use Rattle.molad.specs.Years.{InYears}
use Rattle.newyear.specs.NewYear.{year_length}
use Rattle.newyear.proofs.Lengths.{length_in}
use Rattle.rest.specs.Wings.{IsWing, table_of}
use Rattle.rest.proofs.Passed.{tables_pass}
use Rattle.rest.proofs.RestOfYear.{rest_in_range}
use Rattle.stretches.specs.Stretches.{stretch_rows}
use Rattle.stretches.proofs.WholeList.{stretches_of, two_each}
use Rattle.stretches.proofs.OfKind.{few, most_in_room}
use Rattle.stretch.proofs.Answers.{either_wing}
use Rattle.sheet.specs.Sheet.{most_years, row_of, rows_in, year_rows, rows_before, sheet_size, entry_of, sheet}
use Rattle.sheet.specs.Promises.{offset_told, rows_told, length_told, rows_told_before, stretches_told, SheetOf}
use Rattle.sheet.proofs.Sizes.{rows_long, index_long, years_long, front_long, sheet_long}
use Rattle.layout.proofs.Numbers.{read_back, three_back, holds_left, holds_right}
use Rattle.sheet.proofs.Pairs.{pair_at, pairs_joined, pair_listed}

-- A year has at most 60 rows.
rows_few : (wing h : ℕ) → InYears h → rows_in wing h ≤ 60
unfolding rows_in
rows_few wing h y = omega (arith, few wing h y, most_in_room wing)

module _ (wing h years : ℕ) (w : IsWing wing) (some : 1 ≤ years) (at_most : years ≤ most_years) (from : 1 ≤ h) (to : h + years ≤ 10000) where
  abbrev bytes : List ℕ
  bytes = sheet wing h years

  covered : (i : ℕ) → i < years → InYears (h + i)
  covered i p = (omega arith, omega arith)

  few_before : (n : ℕ) → n ≤ years → rows_before wing h n ≤ 60 * n
  unfolding rows_before
  few_before n p = total_most (λ k. rows_in wing (h + k)) 60 n (λ i q. rows_few wing (h + i) (covered i (omega arith)))

  -- Where the parts stand.
  abbrev header : List ℕ
  header = header_bytes years h (rows_before wing h years)

  abbrev index : List ℕ
  index = joined (entry_of wing h years) years

  abbrev rows : List ℕ
  rows = joined (λ i. year_rows wing (h + i)) years

  front_held : Holds bytes 0 (header ++ index)
  unfolding sheet
  front_held = holds_first (header ++ index) rows

  header_held : Holds bytes 0 header
  header_held = holds_left bytes header index 0 front_held

  index_held : Holds bytes 16 index
  index_held = holds_right bytes header index 0 16 front_held (omega (arith, header_long years h (rows_before wing h years)))

  rows_held : Holds bytes (rows_offset years) rows
  unfolding sheet
  rows_held = holds_second (header ++ index) rows (rows_offset years) (front_long wing h years (rows_before wing h years))

  entry_held : (i : ℕ) → i < years → Holds bytes (16 + 8 * i) (entry_of wing h years i)
  entry_held i p =
      holds_in bytes index (entry_of wing h years i) 16 _ (16 + 8 * i) index_held
      (holds_each (entry_of wing h years) years i p) (omega (arith, index_long wing h years i))

  pub year_held : (i : ℕ) → i < years → Holds bytes (rows_offset years + 6 * rows_before wing h i) (year_rows wing (h + i))
  year_held i p =
      holds_in bytes rows (year_rows wing (h + i)) (rows_offset years) _ (rows_offset years + 6 * rows_before wing h i) rows_held
      (holds_each (λ i. year_rows wing (h + i)) years i p) (omega (arith, years_long wing h i))

  -- The index, read back.
  pub entry_told :
      (i : ℕ) → i < years →
      (offset_told bytes i ≡ rows_offset years + 6 * rows_before wing h i) × ((rows_told bytes i ≡ rows_in wing (h + i)) × (length_told bytes i ≡ year_length (h + i)))
  unfolding offset_told rows_told length_told entry_of entry_bytes
  entry_told i p =
      let y = covered i p in
      three_back bytes (16 + 8 * i) 4 2 2 (rows_offset years + 6 * rows_before wing h i) (rows_in wing (h + i)) (year_length (h + i)) (entry_held i p)
      (omega (arith, few_before i (omega arith))) (omega (arith, rows_few wing (h + i) y)) (omega (arith, (length_in (h + i) y.0 (omega arith)).long))

  before_told : (n : ℕ) → n ≤ years → rows_told_before bytes n ≡ rows_before wing h n
  unfolding rows_told_before rows_before
  before_told n p = total_alike (rows_told bytes) (λ i. rows_in wing (h + i)) n (λ i q. (entry_told i (omega arith)).1.0)

  -- The header, read back.
  pub header_told :
      (number_at bytes 0 2 ≡ years) × ((number_at bytes 2 2 ≡ h) × ((number_at bytes 4 4 ≡ rows_before wing h years) × ((number_at bytes 8 4 ≡ 16) × (number_at bytes 12 4 ≡ rows_offset years))))
  unfolding header_bytes little_endian
  header_told =
      let n = few_before years (omega arith) in
      let first = little_endian 2 years ++ little_endian 2 h ++ little_endian 4 (rows_before wing h years) in
      let front = holds_left bytes (first ++ little_endian 4 index_offset) (little_endian 4 (rows_offset years)) 0 header_held in
      let three = three_back bytes 0 2 2 4 years h (rows_before wing h years) (holds_left bytes first (little_endian 4 index_offset) 0 front) (omega arith) (omega arith) (omega arith) in
      let fourth = read_back bytes 8 4 index_offset (holds_right bytes first (little_endian 4 index_offset) 0 8 front (omega arith)) (omega arith) in
      let fifth = read_back bytes 12 4 (rows_offset years) (holds_right bytes (first ++ little_endian 4 index_offset) (little_endian 4 (rows_offset years)) 0 12 header_held (omega arith)) (omega arith) in
      (three.0, (three.1.0, (three.1.1, (fourth, fifth))))

  -- The rows, read back.
  abbrev list : ℕ → List ℕ
  list i = stretch_rows (table_of wing) (h + i)

  row_held : (i k : ℕ) → i < years → k < rows_in wing (h + i) → Holds bytes (rows_offset years + 6 * rows_before wing h i + 6 * k) (row_of wing (list i) k)
  unfolding year_rows
  row_held i k p q =
      holds_in bytes (year_rows wing (h + i)) (row_of wing (list i) k) (rows_offset years + 6 * rows_before wing h i) _ _ (year_held i p)
      (holds_each (row_of wing (list i)) (rows_in wing (h + i)) k q) (omega (arith, rows_long wing (list i) k))

  -- A stretch's first day and length fit their bytes.
  small : (i k : ℕ) → i < years → k < rows_in wing (h + i) → (get_or (list i) (2 * k) 0 ≤ last_day) × (get_or (list i) (2 * k + 1) 0 ≤ 3)
  unfolding rows_in
  small i k p q =
      let y = covered i p in
      let f = get_or (list i) (2 * k) 0 in
      let c = get_or (list i) (2 * k + 1) 0 in
      let run = ((stretches_of (table_of wing) (tables_pass wing) (h + i) y.0 y.1).only f c (pair_listed (list i) k (omega arith))).0 in
      let days = (either_wing wing).at_most_three f c run in
      ((rest_in_range (table_of wing) f (run.passes f (omega arith) (omega (arith, days.0)))).1, days.1)

  pub row_told :
      (i k : ℕ) → i < years → k < rows_in wing (h + i) →
      let at = rows_offset years + 6 * rows_before wing h i + 6 * k in
      (number_at bytes at 4 ≡ get_or (list i) (2 * k) 0) × ((number_at bytes (at + 4) 1 ≡ get_or (list i) (2 * k + 1) 0) × (number_at bytes (at + 5) 1 ≡ wing))
  unfolding row_of row_bytes
  row_told i k p q =
      let s = small i k p q in
      three_back bytes (rows_offset years + 6 * rows_before wing h i + 6 * k) 4 1 1 (get_or (list i) (2 * k) 0) (get_or (list i) (2 * k + 1) 0) wing (row_held i k p q)
      (omega (arith, s.0)) (omega (arith, s.1)) (⊎_elim (λ e. omega arith) (λ e. omega arith) w)

  -- The rows of a year are its list.
  list_told : (i : ℕ) → i < years → stretches_told bytes (rows_offset years + 6 * rows_before wing h i) (rows_in wing (h + i)) ≡ list i
  unfolding stretches_told rows_in
  list_told i p =
      joined_alike _ (pair_at (list i)) (rows_in wing (h + i)) (λ k q. let t = row_told i k p q in rw (t.0, t.1.0))
      ∙ pairs_joined (list i) (two_each (table_of wing) (tables_pass wing) (h + i))

  pub sheet_of : SheetOf wing h years bytes
  unfolding sheet_size
  sheet_of =
      let t = header_told in
      let before = before_told years (omega arith) in
      record {
        years_told_is = t.0;
        first_told_is = t.1.0;
        rows_told_is = t.1.1.0 ∙ sym before;
        index_offset_is = t.1.1.1.0;
        rows_offset_is = t.1.1.1.1;
        all = rw before (sheet_long wing h years);
        offsets = λ i p. rw (before_told i (omega arith)) (entry_told i p).0;
        lengths = λ i p. (entry_told i p).1.1;
        stretches = λ i p.
            let e = entry_told i p in
            let y = covered i p in
            rw (e.0, e.1.0, list_told i p) (stretches_of (table_of wing) (tables_pass wing) (h + i) y.0 y.1);
        wings = λ i k p q. let e = entry_told i p in rw e.0 (row_told i k p (rw e.1.0 at q)).1.1;
      }
