-- The difference of two natural numbers, with its sign.
use mathlib.Core.Path.{◌≡◌, refl}
use mathlib.Core.Bool.{Bool, true, false, cond}
use Prim.Native.Nat.{ℕ, zero, suc, ◌+◌, ◌-◌, ◌≤◌}
use native.Mathlib.Omega.{arith}
use borrow.Author.Tests.{le-ltb}
use lib.Dec.{ltb}
use lib.IntN.{pos, negsuc, sub_ℕ, ◌-ℤ◌}
use lib.Signed.{mag}

one_of : (t : Bool) (x y n : ℕ) → x ≤ n → y ≤ n → mag (cond t (negsuc x) (pos y)) ≤ n
one_of true x y n p q = p
one_of false x y n p q = q

-- It is no larger than both together.
pub sub_mag : (a b : ℕ) → mag (sub_ℕ a b) ≤ a + b
sub_mag a b = one_of (ltb a b) _ _ _ (omega arith) (omega arith)

pub minus : (a b : ℕ) → pos a -ℤ pos b ≡ sub_ℕ a b
minus a zero = let t : a + 0 ≡ a - 0 = omega arith in rw (le-ltb a 0 (omega arith), t)
minus a (suc b) = refl
