-- Straight line: one test over the fourteen kinds.
use mir.Val.{bool_byte}
use mathlib.Core.Path.{◌≡◌, refl}
use mathlib.Core.Bool.{Bool, true, ◌||◌, cond}
use mathlib.Core.List.{List, [], ◌∷◌}
use Prim.Native.Nat.{ℕ, ◌+◌}
use lib.Dec.{eqb, leb}
use lib.ListN.{get_or}
use borrow.Author.Tests.{eqb-true}
use Rattle.laws.specs.Runs.{each_of, place_in}
use Rattle.newyear.specs.Kinds.{IsLength, kind_code, IsKind, every_kind, kind_number}
use Rattle.newyear.proofs.Lengths.{kind_passes}
use Rattle.newyear_code.proofs.kinds.kind_number.Goals as goal

abbrev firsts : List ℕ
firsts = 0 ∷ 0 ∷ 1 ∷ 5 ∷ 0 ∷ 7 ∷ 0 ∷ 11 ∷ []

abbrev number : ℕ → ℕ → ℕ
number w len = get_or firsts w 0 + cond (leb 383 len) (cond (eqb w 3) 1 2) 0 + bool_byte (eqb len 355 || eqb len 385)

test : ℕ → ℕ → Bool
test w len = eqb (number w len) (kind_number (kind_code w len))

test_all : every_kind test ≡ true
unfolding every_kind each_of test kind_number place_in
test_all = refl

told : (w len : ℕ) → IsLength len → IsKind (kind_code w len) → number w len ≡ kind_number (kind_code w len)
unfolding test
told w len n k = eqb-true _ _ (kind_passes test test_all w len n k)

pub returns : goal.returns
returns c =
    rw (c.from-second.ensures, c.pick-before.ensures.0, c.pick-common.ensures.0) (told c.args.weekday c.args.length c.requires.0 c.requires.1)
