-- A sheet that was written is accepted; and bytes are accepted for a wing's sheet exactly if a writer could have written them for
-- that wing.
use mathlib.Core.Path.{◌≡◌}
use mathlib.Core.List.{List}
use mathlib.Core.Logic.{◌↔◌}
use Prim.Native.Nat.{ℕ, ◌+◌, ◌≤◌}
use native.Mathlib.Omega.{arith}
use Rattle.layout.specs.Reading.{Bytes}
use Rattle.rest.specs.Wings.{IsWing}
use Rattle.sheet.specs.Sheet.{most_years, sheet}
use Rattle.sheet.specs.Promises.{SheetOf}
use Rattle.sheet.proofs.ReadBack.{sheet_of}
use Rattle.content.proofs.Written.{the_writers}
use Rattle.accepted.specs.Check.{years_told, first_told, loaded_refusal}
use Rattle.accepted.specs.Promises.{WritersYears, Placed, Writers}
use Rattle.accepted.proofs.Refusal.{refusal_promised, accepted}

-- What header and index tell of a sheet is all that is asked of it.
pub sheet_accepted :
    (wing h years : ℕ) (bytes : List ℕ) → IsWing wing → 1 ≤ years → years ≤ most_years → 1 ≤ h → h + years ≤ 10000 →
    SheetOf wing h years bytes → loaded_refusal wing bytes ≡ 0
sheet_accepted wing h years bytes w some most from to s =
    let y = s.years_told_is in
    let f = s.first_told_is in
    let fits : Placed bytes =
    record {
      index_offset_is = s.index_offset_is;
      rows_offset_is = rw y s.rows_offset_is;
      rows_counted = rw y s.rows_told_is;
      offsets = rw y s.offsets;
      size = rw (y, s.rows_told_is) s.all;
    }
    in
    let ends : WritersYears bytes = rw (y, f) ((some, most), ((from, omega arith), (omega arith, omega arith))) in
    (refusal_promised wing bytes).done.1 (w, (omega (arith, s.all), (ends, (fits, (rw (y, f) s, tt)))))

module _ (wing : ℕ) (bytes : List ℕ) where
  -- The years that the header tells are the writer's.
  pub accepted_written : Bytes bytes → loaded_refusal wing bytes ≡ 0 → bytes ≡ sheet wing (first_told bytes) (years_told bytes)
  accepted_written all z =
      let t = (accepted wing bytes z).1 in
      let ends = t.0.1 in
      the_writers wing (first_told bytes) (years_told bytes) bytes all ends.0.0 (omega (arith, t.0.0.0, ends.1.1)) t.1.1

  accepted_writers : Bytes bytes → loaded_refusal wing bytes ≡ 0 → Writers wing bytes
  accepted_writers all z =
      let t = (accepted wing bytes z).1.0 in
      record {
        first = first_told bytes;
        years = years_told bytes;
        named = ((refusal_promised wing bytes).done.0 z).0;
        some = t.0.0;
        most = t.0.1;
        covered = t.1;
        written = accepted_written all z;
      }

  written_accepted : Writers wing bytes → loaded_refusal wing bytes ≡ 0
  written_accepted w =
      let from = w.covered.0.0 in
      let to : w.first + w.years ≤ 10000 = omega (arith, w.some, w.covered.1.1) in
      rw w.written
      (sheet_accepted wing w.first w.years (sheet wing w.first w.years) w.named w.some w.most from to
      (sheet_of wing w.first w.years w.named w.some w.most from to))

  pub accepted_exactly : Bytes bytes → (loaded_refusal wing bytes ≡ 0) ↔ Writers wing bytes
  accepted_exactly all = (accepted_writers all, written_accepted)
