-- What holds of signed years and their raised years.
use mathlib.Core.Path.{◌≡◌, refl}
use mathlib.Core.Bool.{Bool, true, false}
use mathlib.Core.Logic.{by_cases}
use Prim.Native.Nat.{ℕ, suc, ◌+◌, ◌-◌, ◌≤◌}
use native.Mathlib.Omega.{arith}
use native.Mathlib.Decide.{dec_lt}
use borrow.Author.Tests.{leb-true, le-leb, le-ltb, lt-ltb}
use lib.Dec.{T}
use lib.IntN.{ℤ, pos, negsuc, ◌+ℤ◌}
use lib.Signed.{le_z, le_z_yes}
use Rattle.laws.proofs.Tests.{and_left, and_right}
use Rattle.civil.specs.Calendar.{first_raised, last_raised}
use Rattle.civil.specs.Signed.{first_civil_year, last_civil_year, InCivilYears, covered, raised, lowered}

-- The years covered, by the signed order and by its test.
is_true : (t : Bool) → T t → t ≡ true
is_true true h = refl
is_true false h = absurd h

pub year_covered : (y : ℤ) → InCivilYears y → covered y ≡ true
year_covered y m = rw (is_true (le_z first_civil_year y) m.0.le) (is_true (le_z y last_civil_year) m.1.le)

holds : (t : Bool) → t ≡ true → T t
holds t e = rw e tt

pub in_years : (y : ℤ) → covered y ≡ true → InCivilYears y
in_years y e =
    let from = le_z first_civil_year y in
    let to = le_z y last_civil_year in
    (le_z_yes (holds from (and_left from to e)), le_z_yes (holds to (and_right from to e)))

pub record Raised (y : ℤ) : Type 0 where
  pub sum : y +ℤ pos 4000 ≡ pos (raised y)
  pub low : first_raised ≤ raised y
  pub high : raised y ≤ last_raised

pub raised_is : (y : ℤ) → covered y ≡ true → Raised y
raised_is (pos n) e = record { sum = refl; low = omega arith; high = omega (arith, leb-true n 6239 e) }
raised_is (negsuc n) e =
    let h = leb-true n 3759 (and_left _ _ e) in
    let t : 4000 - suc n ≡ 3999 - n = omega arith in
    record { sum = rw (le-ltb 4000 (suc n) (omega arith), t); low = omega arith; high = omega arith }

-- A covered year comes back from its raised year.
pub lowered_raised : (y : ℤ) → covered y ≡ true → lowered (raised y) ≡ y
lowered_raised (pos n) e =
    let t : n + 4000 - 4000 ≡ n = omega arith in rw (le-ltb (n + 4000) 4000 (omega arith), t)
lowered_raised (negsuc n) e =
    let h = (raised_is (negsuc n) e).low in
    let t : 4000 - suc (3999 - n) ≡ n = omega arith in rw (lt-ltb (3999 - n) 4000 (omega arith), t)

-- A raised year comes back from its year, which is covered.
pub raised_lowered : (s : ℕ) → first_raised ≤ s → s ≤ last_raised → (covered (lowered s) ≡ true) × (raised (lowered s) ≡ s)
raised_lowered s l u =
    by_cases (dec_lt s 4000)
    (λ p.
    let t : 3999 - (4000 - suc s) ≡ s = omega arith in
    rw (lt-ltb s 4000 p, le-leb (4000 - suc s) 3759 (omega arith)) (refl, t))
    (λ p.
    let t : s - 4000 + 4000 ≡ s = omega arith in
    rw (le-ltb s 4000 (omega arith), le-leb (s - 4000) 6239 (omega arith)) (refl, t))
