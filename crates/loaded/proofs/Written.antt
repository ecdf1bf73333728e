-- A sheet that was written yields what was written; and so what is accepted yields the calendar's rows.
use mathlib.Core.Path.{◌≡◌, sym, subst, ◌∙◌}
use mathlib.Core.List.{List}
use Prim.Native.Nat.{ℕ, ◌+◌, ◌*◌, ◌≤◌, ◌<◌}
use native.Mathlib.Omega.{arith}
use lib.ListN.{take}
use Rattle.laws.specs.Joined.{joined}
use Rattle.laws.proofs.Joins.{held_part, joined_alike, joined_rows}
use Rattle.layout.specs.Layout.{rows_offset}
use Rattle.layout.specs.Reading.{Bytes}
use Rattle.rest.specs.Wings.{IsWing, table_of}
use Rattle.stretches.specs.Stretches.{stretch_rows}
use Rattle.sheet.specs.Sheet.{most_years, rows_in, year_rows, rows_before, sheet}
use Rattle.sheet.specs.Answers.{wing_sheet, wing_sheet_buffer}
use Rattle.sheet.specs.Promises.{SheetOf}
use Rattle.sheet.proofs.Sizes.{year_long}
use Rattle.sheet.proofs.ReadBack.{year_held, entry_told, header_told, row_told, sheet_of}
use Rattle.sheet.proofs.Answers.{sheet_written}
use Rattle.accepted.specs.Check.{years_told, first_told, count_told, loaded_refusal}
use Rattle.accepted.proofs.Refusal.{refusal_promised, accepted}
use Rattle.accepted.proofs.Exactly.{sheet_accepted, accepted_written}
use Rattle.loaded.specs.Rows.{rows_answer, rows_of}
use Rattle.loaded.specs.Walk.{row_place, row_read}
use Rattle.loaded.specs.Promises.{row_numbers, rows_walked, with_wing, Yields}
use Rattle.loaded.proofs.Together.{year_place}
use Rattle.loaded.proofs.Walks.{rows_handed_out}

module _ (wing h years : ℕ) (w : IsWing wing) (some : 1 ≤ years) (most : years ≤ most_years) (from : 1 ≤ h) (to : h + years ≤ 10000) where
  abbrev bytes : List ℕ
  bytes = sheet wing h years

  told : SheetOf wing h years bytes
  told = sheet_of wing h years w some most from to

  taken : loaded_refusal wing bytes ≡ 0
  taken = sheet_accepted wing h years bytes w some most from to told

  -- A year's part.
  year_part_lem : (i : ℕ) → i < years → ((rows_answer wing bytes (h + i)).refusal ≡ 0) × (rows_of bytes (rows_answer wing bytes (h + i)) ≡ year_rows wing (h + i))
  year_part_lem i p =
      let e = entry_told wing h years w some most from to i p in
      let place = rw told.first_told_is at (year_place wing bytes taken i (rw told.years_told_is p)) in (
        rw place,
        rw (place, e.0, e.1.0)
            (held_part bytes (year_rows wing (h + i)) (rows_offset years + 6 * rows_before wing h i) (6 * rows_in wing (h + i)) (year_held wing h years w some most from to i p) (year_long wing (h + i))),
      )

  counted : count_told bytes ≡ rows_before wing h years
  counted = (header_told wing h years w some most from to).1.1.0

  -- The rows, from the first to the last.
  abbrev read : ℕ → List ℕ
  read k = row_numbers (row_read bytes (row_place bytes k))

  year_read : (i : ℕ) → i < years → joined (λ k. read (rows_before wing h i + k)) (rows_in wing (h + i)) ≡ with_wing wing (stretch_rows (table_of wing) (h + i))
  unfolding rows_in
  year_read i p =
      joined_alike _ _ (rows_in wing (h + i)) (λ k q.
      let e : row_place bytes (rows_before wing h i + k) ≡ rows_offset years + 6 * rows_before wing h i + 6 * k = omega (arith, told.years_told_is) in
      let t = row_told wing h years w some most from to i k p q in
      rw (e, t.0, t.1.0, t.1.1))

  all_walked : rows_walked wing bytes (rows_before wing h years) ≡ joined (λ i. with_wing wing (stretch_rows (table_of wing) (h + i))) years
  unfolding rows_before
  all_walked =
      joined_alike _ read (rows_before wing h years) (λ k q. rw (rows_handed_out wing bytes taken k (rw counted q)))
      ∙ joined_rows read (λ i. rows_in wing (h + i)) years
      ∙ joined_alike _ _ years year_read

  pub sheet_yields : Yields wing h years bytes
  sheet_yields = record { accepted = taken; by_year = year_part_lem; counted = counted; walked = all_walked }

-- What `sheet_write` leaves in the lent bytes is accepted, and yields what was written.
pub written_yields :
    (wing h years : ℕ) (buffer : List ℕ) → (wing_sheet wing h years buffer).refusal ≡ 0 →
    Yields wing h years (take (wing_sheet wing h years buffer).count (wing_sheet_buffer wing h years buffer))
written_yields wing h years buffer = sheet_written wing h years buffer (Yields wing h years) (sheet_yields wing h years)

-- Bytes that are accepted yield the calendar's rows for the years that they tell, by year and by walking.
pub accepted_yields :
    (wing : ℕ) (bytes : List ℕ) → Bytes bytes → loaded_refusal wing bytes ≡ 0 → Yields wing (first_told bytes) (years_told bytes) bytes
accepted_yields wing bytes all z =
    let t = (accepted wing bytes z).1.0 in
    subst (Yields wing (first_told bytes) (years_told bytes)) (sym (accepted_written wing bytes all z))
    (sheet_yields wing (first_told bytes) (years_told bytes) ((refusal_promised wing bytes).done.0 z).0 t.0.0 t.0.1 t.1.0.0 (omega (arith, t.0.0, t.1.1.1)))
