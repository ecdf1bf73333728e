-- The hours for a need are the fewest that bring the charge to it; and what a stretch needs, and its hours, are small numbers.
use mathlib.Core.Path.{◌≡◌}
use mathlib.Core.Logic.{by_cases}
use Prim.Native.Nat.{ℕ, ◌+◌, ◌*◌, ◌-◌, ◌/◌, ◌≤◌}
use native.Mathlib.Omega.{arith}
use native.Mathlib.Decide.{dec_lt}
use native.Mathlib.Nat.{div-add-mod, mul-add, mul_comm, mul-le-mul_left, mod-lt}
use Rattle.charger.specs.Charging.{need, missing, hours_needed}
use Rattle.charger.specs.Promises.{GoodFigures}
use Rattle.charger.specs.declared.Figures.{Figures}

module _ (x : Figures) (n : ℕ) (some : 1 ≤ x.rate) where
  abbrev m : ℕ
  m = missing x n

  abbrev r : ℕ
  r = x.rate

  abbrev q : ℕ
  q = (m + (r - 1)) / r

  pub reaches : n ≤ x.charge + r * hours_needed x n
  unfolding hours_needed
  reaches = omega (arith, div-add-mod (m + (r - 1)) r, mod-lt (m + (r - 1)) some)

  pub no_fewer : (k : ℕ) → n ≤ x.charge + r * k → hours_needed x n ≤ k
  unfolding hours_needed
  no_fewer k l =
      by_cases (dec_lt k q)
      (λ p.
      let a : k + 1 ≤ q = omega arith in
      absurd (omega (arith, div-add-mod (m + (r - 1)) r, mul-le-mul_left r a, mul-add r k 1)))
      (λ p. omega arith)

  pub no_hours : n ≤ x.charge → hours_needed x n ≡ 0
  no_hours l = omega (arith, no_fewer 0 (omega arith))

module _ (x : Figures) (days : ℕ) (good : GoodFigures x) (few : days ≤ 3) where
  pub need_small : need x days ≤ 3000000
  need_small = omega (arith, good.draw, mul-le-mul_left x.draw few)

  pub hours_small : hours_needed x (need x days) ≤ 3000000
  hours_small =
      let n = need x days in
      omega (arith, need_small, no_fewer x n good.rate.0 n (omega (arith, mul-le-mul_left n good.rate.0, mul_comm n x.rate)))
