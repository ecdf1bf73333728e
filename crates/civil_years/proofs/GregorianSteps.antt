-- A Gregorian year's eve, and the year of a day, as the code works them out.
use mathlib.Core.Path.{◌≡◌, sym, ◌∙◌}
use mathlib.Core.Bool.{Bool, cond}
use mathlib.Core.Logic.{by_cases}
use Prim.Native.Nat.{ℕ, ◌+◌, ◌-◌, ◌*◌, ◌/◌, ◌%◌, ◌≤◌, ◌<◌}
use native.Mathlib.Omega.{arith}
use native.Mathlib.Decide.{ℕ_discrete}
use borrow.Author.Tests.{eq-eqb, ne_eqb}
use lib.Dec.{eqb}
use Rattle.days.specs.Range.{first_day, last_day}
use Rattle.civil.specs.Calendar.{gregorian, gregorian_leap, first_raised, divisible, day_of}
use Rattle.civil.proofs.MonthStarts.{january, march}
use Rattle.civil.proofs.Centuries.{fourth_of, rule, centuries, fours, one_year_on}
use Rattle.civil.proofs.GregorianYears.{gregorian_day}
use Rattle.civil_years.proofs.Quarters.{last_of_four, place, short}
use Rattle.civil_years.proofs.MarchYears.{IsMarchDay}

pub gregorian_eve :
    (s : ℕ) → first_raised ≤ s → day_of gregorian s 1 0 ≡ 260089 + 365 * s + (s + 3) / 4 + (centuries s + 3) / 4 - centuries s
gregorian_eve s l =
    let f = (s + 3) / 4 in
    let g = (centuries s + 3) / 4 in
    omega (arith, gregorian_day s 1 0 l, january (gregorian_leap s))

-- The leap rule by the centuries begun before the year: the year begins one itself if 100 times their number is the year.
pub gregorian_rule : (s : ℕ) → divisible 4 (cond (eqb (100 * centuries s) s) (centuries s) s) ≡ gregorian_leap s
gregorian_rule s =
    let q = s / 100 in
    let r = s % 100 in
    let e : 100 * q + r ≡ s = omega arith in
    let t = rw e at (rule q r (omega arith)) in
    let f = rw e at (fourth_of q r) in
    by_cases (ℕ_discrete r 0)
    (λ p. let b : centuries s ≡ q = omega arith in rw (t, b, eq-eqb (100 * q) s (omega arith), eq-eqb r 0 p))
    (λ p. rw (t, ne_eqb (100 * centuries s) s (λ z. p (omega arith)), ne_eqb r 0 p, f))

-- 1 March of the raised year 0 is day 260,150.
gregorian_march :
    (s d : ℕ) → first_raised ≤ s → day_of gregorian s 3 d + s / 100 ≡ 260149 + 365 * s + s / 4 + s / 100 / 4 + d
gregorian_march s d l =
    let u = s / 100 in
    let a : centuries (s + 1) ≡ u + 1 = omega arith in
    let b : (u + 1 + 3) / 4 ≡ u / 4 + 1 = omega arith in
    let c : (s + 1 + 3) / 4 ≡ s / 4 + 1 = omega arith in
    let t = rw (a, b, c) at (one_year_on s) in
    let f = (s + 3) / 4 in
    let g = (centuries s + 3) / 4 in
    omega (arith, gregorian_day s 3 d l, march (gregorian_leap s))

-- Year k of century c is followed by a leap year: the last year of a century if the century is the last of four, any
-- other if it is the last of four years.
abbrev pub next_leap : ℕ → ℕ → Bool
next_leap c k = eqb (cond (eqb k 99) c k % 4) 3

last_year_of_century : (c k : ℕ) → k ≡ 99 → next_leap c k ≡ divisible 4 (c + 1)
last_year_of_century c k p = rw (eq-eqb k 99 p) (last_of_four c)

other_year : (c k : ℕ) → (k ≡ 99 → ⊥) → next_leap c k ≡ divisible 4 (k + 1)
other_year c k p = rw (ne_eqb k 99 p) (last_of_four k)

pub next_rule : (c k : ℕ) → k < 100 → next_leap c k ≡ gregorian_leap (100 * c + k + 1)
next_rule c k h =
    by_cases (ℕ_discrete k 99)
    (λ p.
    let e : 100 * c + k + 1 ≡ 100 * (c + 1) + 0 = omega arith in
    rw e (last_year_of_century c k p ∙ sym (rule (c + 1) 0 (omega arith))))
    (λ p.
    let e : 100 * c + k + 1 ≡ 100 * c + (k + 1) = omega arith in
    rw (e, rule c (k + 1) (omega arith), ne_eqb (k + 1) 0 (omega arith)) (other_year c k p))

-- Day a of century c is day y of its year k.
module _ (c a k y : ℕ) (h : k < 100) (e : 365 * k + k / 4 + y ≡ a) where
  abbrev s : ℕ
  s = 100 * c + k

  short_in : a < 36524 + cond (divisible 4 (c + 1)) 1 0 → y < 365 + cond (divisible 4 (k + 1)) 1 0 → y < 365 + cond (next_leap c k) 1 0
  short_in f g =
      by_cases (ℕ_discrete k 99)
      (λ p. rw (last_year_of_century c k p) (omega arith))
      (λ p. rw (other_year c k p) g)

  counted : (n : ℕ) → 36524 * c + c / 4 + a ≡ n → first_raised ≤ s → day_of gregorian s 3 (y + 1) ≡ n + 260150
  counted n f l =
      let b : s / 100 ≡ c = omega arith in
      let d : s / 4 ≡ 25 * c + k / 4 = omega (arith, fours c k 0) in
      let t = rw (b, d) at (gregorian_march s (y + 1) l) in omega arith

abbrev pub century_quarters : ℕ → ℕ
century_quarters j = 4 * (j - 260150) + 3

abbrev pub century : ℕ → ℕ
century j = century_quarters j / 146097

abbrev pub quarters : ℕ → ℕ
quarters j = 4 * (century_quarters j % 146097 / 4) + 3

abbrev pub years : ℕ → ℕ
years j = quarters j / 1461

abbrev pub since_march : ℕ → ℕ
since_march j = quarters j % 1461 / 4

-- No century is longer than a hundred years of 365¼ days.
pub in_its_century : (j : ℕ) → years j < 100
in_its_century j = omega arith

pub gregorian_in_year : (j : ℕ) → first_day ≤ j → j ≤ last_day → IsMarchDay gregorian j (100 * century j + years j) (since_march j)
gregorian_in_year j l u =
    let n = j - 260150 in
    let c = century j in
    let r = century_quarters j % 146097 in
    let a = r / 4 in
    let f : 4 * n + 3 ≡ (4 * 36524 + 1) * c + r = omega arith in
    let h : r < 4 * 36524 + 1 = omega arith in
    let k = years j in
    let p = quarters j % 1461 in
    let y = p / 4 in
    let g : 4 * a + 3 ≡ (4 * 365 + 1) * k + p = omega arith in
    let i : p < 4 * 365 + 1 = omega arith in
    let far = in_its_century j in
    let in-century : 36524 * c + c / 4 + a ≡ n = place 36524 n c r f h in
    let in_year : 365 * k + k / 4 + y ≡ a = place 365 a k p g i in
    let first : first_raised ≤ 100 * c + k = omega arith in
    record {
      first_year = first;
      last_year_lem = omega arith;
      short =
          rw (← next_rule c k far)
          (omega (arith, short_in c a k y far in_year (short 36524 n c r f h) (short 365 a k p g i), march (next_leap c k)));
      place = counted c a k y far in_year n in-century first ∙ omega arith;
    }
