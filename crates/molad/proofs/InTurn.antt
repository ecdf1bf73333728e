-- The molads come in turn: the first is document 01's, and each later one comes a month, 765,433 parts, after the one
-- before it, within a year and from one year to the next.
use mathlib.Core.Path.{◌≡◌, refl}
use mathlib.Core.Bool.{Bool, true, false, not, cond, ◌&&◌, ◌||◌}
use Prim.Native.Nat.{ℕ, suc, ◌+◌, ◌*◌, ◌-◌, ◌≤◌}
use native.Mathlib.Omega.{arith}
use borrow.Author.Tests.{eqb-true}
use lib.Dec.{eqb}
use Rattle.laws.specs.Runs.{every}
use Rattle.laws.proofs.Tests.{at}
use Rattle.laws.proofs.Promises.{let_pass}
use Rattle.molad.specs.Years.{leap, months_in, months_to, months_before}
use Rattle.molad.specs.Molad.{IsMonth, no_month, months_of_year_before, molad_after, molad_parts}
use Rattle.molad.proofs.Answers.{months_caught}

pub first_molad : molad_parts 1 1 ≡ 347998 * 25920 + 5604
unfolding molad_parts molad_after months_before months_to months_of_year_before no_month
first_molad = refl

later : (months : ℕ) → molad_after (months + 1) ≡ molad_after months + 765433
unfolding molad_after
later months = omega arith

-- The code of the next month of the year: Adar follows Shevat in a common year.
abbrev pub next_code : Bool → ℕ → ℕ
next_code isLeap code = cond (eqb code 5 && not isLeap) 7 (code + 1)

-- One month more comes before it: the test, for the codes.
one_more : Bool → ℕ → Bool
one_more isLeap code =
    no_month isLeap code || eqb (months_of_year_before isLeap (next_code isLeap code)) (months_of_year_before isLeap code + 1)

one_more_all : (isLeap : Bool) → every 1 12 (one_more isLeap) ≡ true
unfolding every one_more months_of_year_before no_month
one_more_all true = refl
one_more_all false = refl

month_more :
    (isLeap : Bool) (code : ℕ) → IsMonth isLeap code → code ≤ 12 →
    months_of_year_before isLeap (next_code isLeap code) ≡ months_of_year_before isLeap code + 1
unfolding one_more
month_more isLeap code m u =
    let t = at 1 12 (one_more isLeap) (one_more_all isLeap) code m.0.0 (omega arith) in
    eqb-true _ _ (rw (let_pass (months_caught isLeap code) m) at t)

pub next_molad :
    (h code : ℕ) → IsMonth (leap h) code → code ≤ 12 →
    molad_parts h (next_code (leap h) code) ≡ molad_parts h code + 765433
unfolding molad_parts
next_molad h code m u =
    let n = months_before h + months_of_year_before (leap h) code in
    let e : months_before h + months_of_year_before (leap h) (next_code (leap h) code) ≡ n + 1 = omega (arith, month_more (leap h) code m u) in
    rw e (later n)

-- A year's months are those before its last and that one.
whole : (isLeap : Bool) → cond isLeap 13 12 ≡ months_of_year_before isLeap 13 + 1
unfolding months_of_year_before no_month
whole true = refl
whole false = refl

none : (isLeap : Bool) → months_of_year_before isLeap 1 ≡ 0
unfolding months_of_year_before no_month
none isLeap = refl

next_year : (k : ℕ) → months_to (suc k) ≡ months_to k + months_in (suc k)
unfolding months_to
next_year k = refl

months_on : (h : ℕ) → 1 ≤ h → months_before (h + 1) ≡ months_before h + cond (leap h) 13 12
unfolding months_before months_in
months_on h l =
    let this : h + 1 - 1 ≡ h = omega arith in
    let same : suc (h - 1) ≡ h = omega arith in
    rw this (rw same at (next_year (h - 1)))

pub next_years_molad : (h : ℕ) → 1 ≤ h → molad_parts (h + 1) 1 ≡ molad_parts h 13 + 765433
unfolding molad_parts
next_years_molad h l =
    let n = months_before h + months_of_year_before (leap h) 13 in
    let e : months_before (h + 1) + months_of_year_before (leap (h + 1)) 1 ≡ n + 1 = omega (arith, months_on h l, whole (leap h), none (leap (h + 1))) in
    rw e (later n)
