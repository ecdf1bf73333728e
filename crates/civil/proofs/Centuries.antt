-- The Gregorian years: the leap rule by the year's place in its century, and the days of the years from −3760 on.
use mathlib.Core.Path.{◌≡◌, refl, ◌∙◌}
use mathlib.Core.Bool.{Bool, cond, and-true}
use mathlib.Core.Logic.{by_cases}
use Prim.Native.Nat.{ℕ, zero, suc, ◌+◌, ◌*◌, ◌/◌, ◌%◌, ◌<◌}
use native.Mathlib.Omega.{arith}
use native.Mathlib.Nat.{mul-add-mod_self_left, mul-add-div}
use native.Mathlib.Decide.{ℕ_discrete}
use borrow.Author.Tests.{eq-eqb, ne_eqb}
use lib.Dec.{eqb, lit<}
use Rattle.civil.specs.Calendar.{year_days, years_days, first_raised, divisible, gregorian_leap}
use Rattle.civil.proofs.MonthStarts.{year_days_lem}
use Rattle.civil.proofs.Years.{fourth}

-- The year 100 q + r: r decides, but for the first year of a century, where q does.
abbrev leap_at : ℕ → ℕ → Bool
leap_at q r = divisible 4 (cond (eqb r 0) q r)

pub fourth_of : (q r : ℕ) → (100 * q + r) % 4 ≡ r % 4
fourth_of q r = let e : 100 * q + r ≡ 4 * (25 * q) + r = omega arith in rw e (mul-add-mod_self_left 4 (25 * q) r)

pub rule : (q r : ℕ) → r < 100 → gregorian_leap (100 * q + r) ≡ leap_at q r
unfolding gregorian_leap
rule q r h =
    let b : (100 * q + r) % 100 ≡ r = omega arith in
    let c : (100 * q + r) % 400 ≡ 100 * (q % 4) + r =
    let e : 100 * q + r ≡ 400 * (q / 4) + (100 * (q % 4) + r) = omega arith in
    let f : (100 * (q % 4) + r) % 400 ≡ 100 * (q % 4) + r = omega arith in
    rw e (mul-add-mod_self_left 400 (q / 4) (100 * (q % 4) + r) ∙ f) in
    rw (fourth_of q r, b, c)
    (by_cases (ℕ_discrete r 0)
    (λ e.
    let f = eq-eqb (r % 4) 0 (omega arith) in
    by_cases (ℕ_discrete (q % 4) 0)
    (λ g. rw (f, eq-eqb r 0 e, eq-eqb (q % 4) 0 g, eq-eqb (100 * (q % 4) + r) 0 (omega arith)))
    (λ g. rw (f, eq-eqb r 0 e, ne_eqb (q % 4) 0 g, ne_eqb (100 * (q % 4) + r) 0 (λ z. g (omega arith)))))
    (λ e. rw (ne_eqb r 0 e) (and-true (divisible 4 r))))

-- Centuries begun before a year.
abbrev pub centuries : ℕ → ℕ
centuries s = (s + 99) / 100

pub fours : (q r n : ℕ) → (100 * q + r + n) / 4 ≡ 25 * q + (r + n) / 4
fours q r n =
    let e : 100 * q + r + n ≡ 4 * (25 * q) + (r + n) = omega arith in rw e (mul-add-div (lit< tt) (25 * q) (r + n))

-- One year on: a leap day, or none.
leap_day :
    (q r : ℕ) → r < 100 → let s = 100 * q + r in
    cond (leap_at q r) 1 0 + centuries (s + 1) + (s + 3) / 4 + (centuries s + 3) / 4 ≡ centuries s + (s + 1 + 3) / 4 + (centuries (s + 1) + 3) / 4
leap_day q r h =
    let s = 100 * q + r in
    let three : (s + 3) / 4 ≡ 25 * q + (r + 3) / 4 = fours q r 3 in
    let four : (s + 1 + 3) / 4 ≡ 25 * q + (r + 4) / 4 = let e : s + 1 + 3 ≡ s + 4 = omega arith in rw e (fours q r 4) in
    by_cases (ℕ_discrete r 0)
    (λ b.
    let at : centuries s ≡ q = omega arith in
    let after : centuries (s + 1) ≡ q + 1 = omega arith in
    let one : leap_at q r ≡ divisible 4 q = rw (eq-eqb r 0 b) in
    rw (at, after, three, four, one, b) (omega (arith, fourth q)))
    (λ b.
    let at : centuries s ≡ q + 1 = omega arith in
    let after : centuries (s + 1) ≡ q + 1 = omega arith in
    let one : leap_at q r ≡ divisible 4 r = rw (ne_eqb r 0 b) in
    rw (at, after, three, four, one) (omega (arith, fourth r)))

-- The same by the year's own number.
pub one_year_on :
    (s : ℕ) →
    cond (gregorian_leap s) 1 0 + centuries (s + 1) + (s + 3) / 4 + (centuries s + 3) / 4 ≡ centuries s + (s + 1 + 3) / 4 + (centuries (s + 1) + 3) / 4
one_year_on s =
    let e : 100 * (s / 100) + s % 100 ≡ s = omega arith in
    rw (← rule (s / 100) (s % 100) (omega arith), e) at (leap_day (s / 100) (s % 100) (omega arith))

-- The sum so far and one year more, with each quotient a number of its own.
one_more :
    (years year leap k fours hundreds fourHundreds fours' hundreds' fourHundreds' : ℕ) →
    years + 58 + hundreds ≡ 365 * k + fours + fourHundreds → year ≡ 365 + leap →
    leap + hundreds' + fours + fourHundreds ≡ hundreds + fours' + fourHundreds' →
    years + year + 58 + hundreds' ≡ 365 * suc k + fours' + fourHundreds'
one_more years year leap k fours hundreds fourHundreds fours' hundreds' fourHundreds' a b c = omega arith

-- The days of the Gregorian years from −3760 on. From the raised year 0 to −3760 there are 60 multiples of 4, 3 of 100
-- and 1 of 400.
pub gregorian_years :
    (k : ℕ) → let s = first_raised + k in
    years_days gregorian_leap k + 58 + centuries s ≡ 365 * k + (s + 3) / 4 + (centuries s + 3) / 4
unfolding years_days
gregorian_years zero = refl
gregorian_years (suc k) =
    let s = first_raised + k in
    let f : first_raised + suc k ≡ s + 1 = omega arith in
    rw f
    (one_more (years_days gregorian_leap k) (year_days (gregorian_leap s)) (cond (gregorian_leap s) 1 0) k ((s + 3) / 4) (centuries s)
    ((centuries s + 3) / 4) ((s + 1 + 3) / 4) (centuries (s + 1)) ((centuries (s + 1) + 3) / 4) (gregorian_years k) (year_days_lem (gregorian_leap s)) (one_year_on s))
