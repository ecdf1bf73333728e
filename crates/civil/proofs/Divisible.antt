-- Leap years are told by their raised years: a covered year and its raised year have the same divisors among those of
-- 4,000, zero and negative years too.
use mathlib.Core.Path.{◌≡◌, refl, ◌∙◌}
use mathlib.Core.Bool.{Bool, true, false, ◌&&◌, not, false≢true}
use mathlib.Core.Logic.{◌↔◌, by_cases}
use Prim.Native.Nat.{ℕ, suc, ◌+◌, ◌-◌, ◌*◌, ◌/◌, ◌%◌, ◌≤◌, zero-le, suc-le-suc}
use native.Mathlib.Omega.{arith}
use native.Mathlib.Decide.{dec_lt}
use native.Mathlib.Nat.{div-add-mod, mul-add, mul-sub, mul-mod_right, mul-le-mul_left, mul-lt-mul_of_pos_left}
use borrow.Author.Tests.{eqb-true, eq-eqb, le-ltb, lt-ltb}
use lib.IntN.{ℤ, pos, negsuc, sub_ℕ, ◌*ℤ◌}
use Rattle.civil.specs.Signed.{covered, raised, Divides, JulianLeapYear, GregorianLeapYear}
use Rattle.civil.specs.Calendar.{divisible, julian_leap, gregorian_leap}
use Rattle.civil.proofs.Raising.{lowered_raised}

-- k times a difference.
times_sub : (k a b : ℕ) → 1 ≤ k → pos k *ℤ sub_ℕ a b ≡ sub_ℕ (k * a) (k * b)
times_sub k a b l =
    by_cases (dec_lt a b)
    (λ p.
    let f : suc (b - suc a) ≡ b - a = omega arith in
    let h = mul-lt-mul_of_pos_left p l in
    let t : k * suc (b - suc a) ≡ suc (k * b - suc (k * a)) = rw f (omega (arith, mul-sub k b a)) in
    rw (lt-ltb a b p, lt-ltb (k * a) (k * b) h, t))
    (λ p. rw (le-ltb a b (omega arith), le-ltb (k * a) (k * b) (mul-le-mul_left k (omega arith)), mul-sub k a b))

module _ (k q : ℕ) (l : 1 ≤ k) (e : k * q ≡ 4000) where
  -- A multiple of k, raised.
  multiple : (z : ℤ) → raised (pos k *ℤ z) % k ≡ 0
  multiple (pos n) = let t : k * n + 4000 ≡ k * (n + q) = omega (arith, mul-add k n q) in rw t (mul-mod_right k (n + q))
  multiple (negsuc n) =
      let f : k * suc n ≡ suc (k * suc n - 1) = omega (arith, mul-le-mul_left k (suc-le-suc (zero-le {n = n}))) in
      let t : 3999 - (k * suc n - 1) ≡ k * (q - suc n) = omega (arith, mul-sub k q (suc n)) in
      rw f (rw t (mul-mod_right k (q - suc n)))

  pub same_divisor : (y : ℤ) → covered y ≡ true → (divisible k (raised y) ≡ true) ↔ Divides k y
  same_divisor y c =
      let s = raised y in (
        λ d.
            let f : k * (s / k) ≡ s = omega (arith, div-add-mod s k, eqb-true (s % k) 0 d) in
            record { times = sub_ℕ (s / k) q; product = times_sub k (s / k) q l ∙ rw (f, e) (lowered_raised y c) },
        λ d. eq-eqb (s % k) 0 (rw d.product at (multiple d.times)),
      )

-- The three divisors that decide leap years.
pub divisible_by_4 : (y : ℤ) → covered y ≡ true → (divisible 4 (raised y) ≡ true) ↔ Divides 4 y
divisible_by_4 = same_divisor 4 1000 (omega arith) refl

pub divisible_by_100 : (y : ℤ) → covered y ≡ true → (divisible 100 (raised y) ≡ true) ↔ Divides 100 y
divisible_by_100 = same_divisor 100 40 (omega arith) refl

pub divisible_by_400 : (y : ℤ) → covered y ≡ true → (divisible 400 (raised y) ≡ true) ↔ Divides 400 y
divisible_by_400 = same_divisor 400 10 (omega arith) refl

-- Document 01's leap years, of the signed years themselves.
pub julian_leap_year : (y : ℤ) → covered y ≡ true → (julian_leap (raised y) ≡ true) ↔ JulianLeapYear y
unfolding julian_leap
julian_leap_year = divisible_by_4

-- The rule of three tests, read of what each of them says.
rule_of_three :
    (a b c : Bool) {A B C : Type 0} → (a ≡ true) ↔ A → (b ≡ true) ↔ B → (c ≡ true) ↔ C →
    (a && not (b && not c) ≡ true) ↔ (A × (¬ (B × (¬ C))))
rule_of_three true true true p q r = (λ e. (p.0 refl, λ h. h.1 (r.0 refl)), λ h. refl)
rule_of_three true true false p q r =
    (λ e. absurd (false≢true e), λ h. absurd (h.1 (q.0 refl, λ x. false≢true (r.1 x))))
rule_of_three true false c p q r = (λ e. (p.0 refl, λ h. false≢true (q.1 h.0)), λ h. refl)
rule_of_three false b c p q r = (λ e. absurd (false≢true e), λ h. p.1 h.0)

-- Divisible by 4, unless divisible by 100 and not by 400.
pub gregorian_leap_year :
    (y : ℤ) → covered y ≡ true → (gregorian_leap (raised y) ≡ true) ↔ GregorianLeapYear y
unfolding gregorian_leap
gregorian_leap_year y c =
    let s = raised y in
    rule_of_three (divisible 4 s) (divisible 100 s) (divisible 400 s) (divisible_by_4 y c) (divisible_by_100 y c)
    (divisible_by_400 y c)
