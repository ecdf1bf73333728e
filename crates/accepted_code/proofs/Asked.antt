-- What is asked of a sheet in turn, and what each test says.
use mathlib.Core.Path.{◌≡◌, refl}
use mathlib.Core.Bool.{Bool, true, false, ◌&&◌, and-true, and-false, and_comm}
use mathlib.Core.List.{List}
use Prim.Native.Nat.{ℕ, ◌≤◌, ◌<◌}
use native.Mathlib.Omega.{arith}
use borrow.Author.Tests.{lt-ltb, le-ltb}
use lib.ListN.{length}
use Rattle.layout.specs.Layout.{rows_offset}
use Rattle.rest.specs.Wings.{out_of_wings}
use Rattle.rest_table.specs.Wing.{number_of}
use Rattle.rest_table.specs.declared.wings.Wing.{Wing}
use Rattle.content.specs.Content.{content_agrees}
use Rattle.content_code.specs.Steps.{RowsWithin}
use Rattle.accepted.specs.Check.{years_told, first_told, placed, loaded_refusal}
use Rattle.accepted.proofs.Accepted.{all_fit, rows_inside}
use Rattle.rest_table.proofs.Numbered.{known_wing}
use Rattle.sheet_years.specs.Asked.{strange, Holds}
use Rattle.sheet_years.specs.declared.years.Years.{Years}

-- Header and size are tested before the index, and the sum of rows behind it.
pub fit : (index offset size placed sum : Bool) → index && offset && size ≡ true → placed && sum ≡ index && (offset && (sum && (placed && size)))
fit true true true placed sum p = rw (and-true placed) (and_comm placed sum)
fit true true false placed sum p = cc
fit true false size placed sum p = cc
fit false offset size placed sum p = cc

pub unfit : (index offset size placed sum : Bool) → index && offset && size ≡ false → index && (offset && (sum && (placed && size))) ≡ false
unfit true true true placed sum p = cc
unfit true true false placed sum p = rw (and-false placed, and-false sum)
unfit true false size placed sum p = refl
unfit false offset size placed sum p = refl

pub no_wing : (wing : ℕ) (bytes : List ℕ) → out_of_wings wing ≡ true → loaded_refusal wing bytes ≡ 15
unfolding loaded_refusal
no_wing wing bytes e = rw e

module _ (w : Wing) (wing : ℕ) (bytes : List ℕ) (named : number_of w ≡ wing) where
  pub too_short : length bytes < 16 → loaded_refusal wing bytes ≡ 16
  unfolding loaded_refusal
  too_short p = rw (known_wing w wing named, lt-ltb (length bytes) 16 p)

  module _ (long : 16 ≤ length bytes) where
    pub odd_years : strange (first_told bytes) (years_told bytes) ≡ true → loaded_refusal wing bytes ≡ 17
    unfolding loaded_refusal
    odd_years e = rw (known_wing w wing named, le-ltb (length bytes) 16 long, e)

    module _ (years : Years) (y : Holds (first_told bytes) (years_told bytes) years) where
      pub misplaced : placed bytes ≡ false → loaded_refusal wing bytes ≡ 18
      unfolding loaded_refusal
      misplaced e = rw (known_wing w wing named, le-ltb (length bytes) 16 long, y.good, e)

      module _ (p : placed bytes ≡ true) where
        pub within : (rows_offset years.count ≤ length bytes) × RowsWithin bytes years.count
        within = let f = all_fit bytes p in rw y.count (omega (arith, f.size), rows_inside bytes f)

        pub different : content_agrees (number_of w) bytes years.first years.count ≡ false → loaded_refusal wing bytes ≡ 19
        unfolding loaded_refusal
        different e = let d = rw (named, y.first, y.count) at e in rw (known_wing w wing named, le-ltb (length bytes) 16 long, y.good, p, d)

        pub alike : content_agrees (number_of w) bytes years.first years.count ≡ true → loaded_refusal wing bytes ≡ 0
        unfolding loaded_refusal
        alike e = let d = rw (named, y.first, y.count) at e in rw (known_wing w wing named, le-ltb (length bytes) 16 long, y.good, p, d)
