-- The words of this crate are these numbers, worked out from New Years.
use mathlib.Core.Path.{◌≡◌, refl}
use mathlib.Core.Logic.{inl, inr}
use Prim.Native.Nat.{ℕ, ◌+◌, ◌≤◌}
use native.Mathlib.Omega.{arith}
use Rattle.laws.specs.Joined.{total}
use Rattle.laws.specs.Runs.{every}
use Rattle.newyear.specs.NewYear.{new_year}
use Rattle.newyear.proofs.Quick.{quick, new_year_quick}
use Rattle.rest.specs.Wings.{IsWing}
use Rattle.layout.specs.Reading.{worth, number_at}
use Rattle.sheet.specs.Sheet.{most_years, sheet}
use Rattle.sheet.specs.Promises.{offset_told, rows_told, length_told, rows_told_before}
use Rattle.sheet.proofs.Fixed.{days}
use Rattle.sheet.proofs.ReadBack.{sheet_of}
use Rattle.content.specs.Content.{year_agrees, content_agrees}
use Rattle.accepted.specs.Check.{index_placed, placed, loaded_refusal}
use Rattle.accepted.specs.Fixed.{WordsFixed}
use Rattle.accepted.proofs.Exactly.{sheet_accepted}

written : (wing h years : ℕ) → IsWing wing → 1 ≤ years → years ≤ most_years → 1 ≤ h → h + years ≤ 10000 → loaded_refusal wing (sheet wing h years) ≡ 0
written wing h years w some most from to = sheet_accepted wing h years (sheet wing h years) w some most from to (sheet_of wing h years w some most from to)

pub words_fixed : WordsFixed
unfolding quick total every number_at worth offset_told rows_told length_told rows_told_before index_placed placed content_agrees year_agrees loaded_refusal
words_fixed =
    let n5775 : new_year 5775 ≡ 2456926 = new_year_quick 5775 (omega arith) in
    let n5776 : new_year 5776 ≡ 2457280 = new_year_quick 5776 (omega arith) in
    let d5775 = days 5775 2456926 2457280 n5775 n5776 in
    record {
      taken = (written 1 5775 1 (inl refl) (omega arith) (omega arith) (omega arith) (omega arith), written 2 5775 3 (inr refl) (omega arith) (omega arith) (omega arith) (omega arith));
      no_wing = (refl, refl);
      refused = (refl, refl, refl, refl, refl, refl, rw d5775, rw d5775);
    }
