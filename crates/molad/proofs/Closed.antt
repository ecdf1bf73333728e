-- The months before a year in closed form, for every year from 1 on; and leap years by the remainder of that division.
use mathlib.Core.Path.{◌≡◌, refl}
use mathlib.Core.Bool.{Bool, true, false, not, cond, ◌&&◌, beq}
use mathlib.Core.List.{List, [], ◌∷◌}
use Prim.Native.Nat.{ℕ, zero, suc, ◌+◌, ◌*◌, ◌-◌, ◌/◌, ◌%◌, ◌≤◌}
use native.Mathlib.Omega.{arith}
use native.Mathlib.Nat.{mul-add-mod_self_left, mul-add-div}
use borrow.Author.Tests.{eqb-true}
use lib.Dec.{eqb, ltb, leb, lit<}
use Rattle.laws.specs.Runs.{every}
use Rattle.laws.proofs.Tests.{at, equal, all, facts, beq_true}
use Rattle.laws.proofs.Cycle.{cycle_mod, cycle_div}
use Rattle.molad.specs.Years.{leap, months_in, months_to, months_before}
use Rattle.molad.specs.Molad.{no_month, months_of_year_before, molad_after}
use Rattle.molad.specs.Units.{parts_in_day}

-- The closed form grows by the months of the next year: the test, in one cycle.
grows : ℕ → Bool
grows r = eqb ((235 * suc r + 1) / 19) ((235 * r + 1) / 19 + months_in (suc r))

grows_all : every 0 19 grows ≡ true
unfolding every grows months_in leap
grows_all = refl

-- A year's months go by its place in the cycle.
cycle : (k : ℕ) → months_in (suc k) ≡ months_in (suc (k % 19))
unfolding months_in leap
cycle k = let e : suc k % 19 ≡ suc (k % 19) % 19 = omega arith in rw e

step : (k : ℕ) → (235 * suc k + 1) / 19 ≡ (235 * k + 1) / 19 + months_in (suc k)
unfolding grows
step k =
    let t = at 0 19 grows grows_all (k % 19) (omega arith) (omega arith) in
    omega (arith, cycle k, cycle_div 235 1 19 k (lit< tt), cycle_div 235 236 19 k (lit< tt), eqb-true)

months_to_lem : (k : ℕ) → months_to k ≡ (235 * k + 1) / 19
unfolding months_to
months_to_lem zero = refl
months_to_lem (suc k) = omega (arith, months_to_lem k, step k)

-- Document 01: this sum is (235 × H − 234) divided by 19, rounded down.
pub months_closed : (h : ℕ) → 1 ≤ h → months_before h ≡ (235 * h - 234) / 19
unfolding months_before
months_closed h p = omega (arith, months_to_lem (h - 1))

-- The remainder of the months before a year.
abbrev pub remainder : ℕ → ℕ
remainder h = (235 * h - 234) % 19

-- By the year's place in the cycle of 19.
pub remainder_cycle : (h : ℕ) → 1 ≤ h → remainder h ≡ (235 * (h % 19) + 13) % 19
remainder_cycle h l =
    let e : 235 * h + 13 ≡ 19 * 13 + (235 * h - 234) = omega arith in
    let m : (235 * h + 13) % 19 ≡ remainder h = rw e (mul-add-mod_self_left 19 13 (235 * h - 234)) in
    rw (← m) (cycle_mod 235 13 19 h)

-- It is 12 or more in leap years, and below 7 after a leap year: the test, in one cycle.
leaps : ℕ → List Bool
leaps r = beq (leb 12 ((235 * r + 13) % 19)) (leap r) ∷ beq (ltb ((235 * r + 13) % 19) 7) (leap (r + 18)) ∷ []

leaps_all : every 0 19 (λ r. all (leaps r)) ≡ true
unfolding every leaps leap
leaps_all = refl

leap_place : (a b : ℕ) → a % 19 ≡ b % 19 → leap a ≡ leap b
unfolding leap
leap_place a b e = rw e

pub leap_remainder : (h : ℕ) → 1 ≤ h → (leb 12 (remainder h) ≡ leap h) × (ltb (remainder h) 7 ≡ leap (h - 1))
unfolding leaps
leap_remainder h l =
    let this = leap_place h (h % 19) (omega arith) in
    let before = leap_place (h - 1) (h % 19 + 18) (omega arith) in
    let t = facts (leaps (h % 19)) (at 0 19 (λ r. all (leaps r)) leaps_all (h % 19) (omega arith) (omega arith)) in
    rw (remainder_cycle h l, this, before) (beq_true _ _ t.0, beq_true _ _ t.1.0)

-- The months of a year before a code: one less than the code, and one less again past code 6 of a common year.
codes : (isLeap : Bool) → every 1 13 (λ c. eqb (months_of_year_before isLeap c + cond (ltb 6 c && not isLeap) 2 1) c) ≡ true
unfolding every months_of_year_before no_month
codes true = refl
codes false = refl

pub months_of_year : (isLeap : Bool) (code : ℕ) → 1 ≤ code → code ≤ 13 → months_of_year_before isLeap code + cond (ltb 6 code && not isLeap) 2 1 ≡ code
months_of_year isLeap code l u =
    equal 1 13 (λ c. months_of_year_before isLeap c + cond (ltb 6 c && not isLeap) 2 1) (λ c. c) (codes isLeap) code l (omega arith)

-- A month is 29 days and 13,753 parts.
regroup : (m : ℕ) → molad_after m ≡ parts_in_day * (347998 + 29 * m) + (5604 + 13753 * m)
unfolding molad_after
regroup m = omega arith

pub molad_day_lem : (m : ℕ) → molad_after m / parts_in_day ≡ 347998 + 29 * m + (5604 + 13753 * m) / parts_in_day
molad_day_lem m = rw (regroup m) (mul-add-div (lit< tt) (347998 + 29 * m) (5604 + 13753 * m))

pub molad_time_lem : (m : ℕ) → molad_after m % parts_in_day ≡ (5604 + 13753 * m) % parts_in_day
molad_time_lem m = rw (regroup m) (mul-add-mod_self_left parts_in_day (347998 + 29 * m) (5604 + 13753 * m))
