-- One year more: its rows are stored behind those before it, and its entry behind the entries before it.
use mathlib.Core.Path.{◌≡◌, ◌∙◌}
use mathlib.Core.List.{List, ◌++◌}
use Prim.Native.Nat.{ℕ, ◌+◌, ◌*◌, ◌≤◌, ◌<◌}
use native.Mathlib.Omega.{arith}
use lib.ListN.{length}
use lib.Seq.{sets, length-sets}
use Rattle.laws.specs.Joined.{joined}
use Rattle.laws.proofs.Joins.{joined_more, total_more, total_grows}
use Rattle.laws.specs.Buffer.{overwrite}
use Rattle.laws.proofs.Stores.{sets_more, sets_three, sets_apart, sets_over}
use Rattle.layout.specs.Layout.{rows_offset, header_bytes}
use Rattle.layout.proofs.Sizes.{header_long}
use Rattle.sheet.specs.Sheet.{rows_in, year_rows, rows_before, sheet_size, entry_of, sheet}
use Rattle.sheet.proofs.Sizes.{entry_of_long, index_long, years_long, sheet_long}

module _ (wing h : ℕ) where
  pub rows_more : (i : ℕ) → rows_before wing h (i + 1) ≡ rows_before wing h i + rows_in wing (h + i)
  unfolding rows_before
  rows_more i = total_more (λ k. rows_in wing (h + k)) i

  pub rows_grow : (i n : ℕ) → i ≤ n → rows_before wing h i ≤ rows_before wing h n
  unfolding rows_before
  rows_grow i n p = total_grows (λ k. rows_in wing (h + k)) i n p

  -- The bytes with the first i of so many years on them.
  abbrev pub written : ℕ → List ℕ → ℕ → List ℕ
  written years out i = sets (sets out 16 (joined (entry_of wing h years) i)) (rows_offset years) (joined (λ k. year_rows wing (h + k)) i)

  pub written_long : (years : ℕ) (out : List ℕ) (i : ℕ) → length (written years out i) ≡ length out
  written_long years out i =
      let entries = joined (entry_of wing h years) i in
      length-sets (sets out 16 entries) (rows_offset years) (joined (λ k. year_rows wing (h + k)) i) ∙ length-sets out 16 entries

  pub year_more :
      (years i : ℕ) (out : List ℕ) → i < years →
      sets (sets (written years out i) (rows_offset years + 6 * rows_before wing h i) (year_rows wing (h + i))) (16 + 8 * i) (entry_of wing h years i)
      ≡ written years out (i + 1)
  year_more years i out p =
      let entries = joined (entry_of wing h years) i in
      let rows = joined (λ k. year_rows wing (h + k)) i in
      let entry = entry_of wing h years i in
      let year = year_rows wing (h + i) in
      rw (
        sets_more (sets out 16 entries) rows year (rows_offset years) (rows_offset years + 6 * rows_before wing h i) (omega (arith, years_long wing h i)),
        ← sets_apart (sets out 16 entries) entry (rows ++ year) (16 + 8 * i) (rows_offset years) (omega (arith, entry_of_long wing h years i)),
        sets_more out entries entry 16 (16 + 8 * i) (omega (arith, index_long wing h years i)),
        joined_more (entry_of wing h years) i,
        joined_more (λ k. year_rows wing (h + k)) i,
      )

  -- With all years on them, and the header, the bytes are the sheet and what stood beyond it.
  pub all_written :
      (years : ℕ) (out : List ℕ) → sheet_size wing h years ≤ length out →
      written years (sets out 0 (header_bytes years h (rows_before wing h years))) years ≡ overwrite out (sheet wing h years)
  unfolding sheet
  all_written years out p =
      let header = header_bytes years h (rows_before wing h years) in
      let index = joined (entry_of wing h years) years in
      let rows = joined (λ k. year_rows wing (h + k)) years in
      rw (sets_three out header index rows 0 16 (rows_offset years) (omega (arith, header_long years h (rows_before wing h years))) (omega (arith, index_long wing h years years)))
      (sets_over out (sheet wing h years) (rw (sheet_long wing h years) p))
