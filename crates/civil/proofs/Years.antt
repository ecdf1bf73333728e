-- Years one after another: their days, added year by year.
use mathlib.Core.Path.{◌≡◌, refl}
use mathlib.Core.Bool.{Bool, cond}
use mathlib.Core.Logic.{by_cases}
use Prim.Native.Nat.{ℕ, zero, suc, ◌+◌, ◌-◌, ◌*◌, ◌/◌, ◌%◌, ◌≤◌, ◌<◌}
use native.Mathlib.Omega.{arith}
use native.Mathlib.Decide.{ℕ_discrete}
use borrow.Author.Tests.{eq-eqb, ne_eqb}
use Rattle.civil.specs.Calendar.{year_days, years_days, first_raised, divisible, julian_leap}
use Rattle.civil.proofs.MonthStarts.{year_days_lem}

pub next_year :
    (leap : ℕ → Bool) (s : ℕ) → first_raised ≤ s →
    years_days leap (s + 1 - first_raised) ≡ years_days leap (s - first_raised) + year_days (leap s)
unfolding years_days
next_year leap s l =
    let e : s + 1 - first_raised ≡ suc (s - first_raised) = omega arith in
    let f : first_raised + (s - first_raised) ≡ s = omega arith in
    rw (e, f)

-- A year ends before a later one begins.
pub years_rise :
    (leap : ℕ → Bool) (a b : ℕ) → a < b → years_days leap a + year_days (leap (first_raised + a)) ≤ years_days leap b
unfolding years_days
years_rise leap a zero p = absurd (omega arith)
years_rise leap a (suc b) p =
    by_cases (ℕ_discrete a b) (λ q. rw q (omega arith)) (λ q. omega (arith, years_rise leap a b (omega arith)))

-- How many of the numbers below n are multiples of 4: one more after a multiple.
pub fourth : (n : ℕ) → cond (divisible 4 n) 1 0 + (n + 3) / 4 ≡ (n + 4) / 4
fourth n =
    by_cases (ℕ_discrete (n % 4) 0) (λ p. rw (eq-eqb _ _ p) (omega arith)) (λ p. rw (ne_eqb _ _ p) (omega arith))

-- The Julian years from −3760 on: the first of every four is leap.
pub julian_rule : (k : ℕ) → julian_leap (first_raised + k) ≡ divisible 4 k
unfolding julian_leap
julian_rule k = let e : (first_raised + k) % 4 ≡ k % 4 = omega arith in rw e

pub julian_years : (k : ℕ) → years_days julian_leap k ≡ 365 * k + (k + 3) / 4
unfolding years_days
julian_years zero = refl
julian_years (suc k) = rw (julian_rule k) (omega (arith, julian_years k, fourth k, year_days_lem (divisible 4 k)))
