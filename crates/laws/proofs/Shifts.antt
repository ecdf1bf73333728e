-- Small numbers are divided by 7 and by 19 by a product and a shift: 33,554,432 is 2 to the 25th.
use mathlib.Core.Path.{◌≡◌}
use Prim.Native.Nat.{ℕ, ◌*◌, ◌/◌, ◌≤◌}
use native.Mathlib.Omega.{arith}

pub sevenths : (x : ℕ) → x ≤ 5000001 → x * 4793491 / 33554432 ≡ x / 7
sevenths x u = omega arith

pub nineteenths : (x : ℕ) → x ≤ 2400000 → x * 1766023 / 33554432 ≡ x / 19
nineteenths x u = omega arith
