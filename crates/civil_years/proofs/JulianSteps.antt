-- A Julian year's eve, and the year of a day, as the code works them out.
use mathlib.Core.Path.{◌≡◌}
use Prim.Native.Nat.{ℕ, ◌+◌, ◌-◌, ◌*◌, ◌/◌, ◌%◌, ◌≤◌, ◌<◌}
use native.Mathlib.Omega.{arith}
use Rattle.days.specs.Range.{first_day, last_day}
use Rattle.civil.specs.Calendar.{julian, julian_leap, first_raised, divisible, day_of}
use Rattle.civil.proofs.MonthStarts.{january, march}
use Rattle.civil.proofs.Years.{fourth}
use Rattle.civil.proofs.JulianYears.{julian_day}
use Rattle.civil_years.proofs.Quarters.{place, short}
use Rattle.civil_years.proofs.MarchYears.{IsMarchDay}

pub julian_eve : (s : ℕ) → first_raised ≤ s → day_of julian s 1 0 ≡ 260057 + 365 * s + (s + 3) / 4
julian_eve s l =
    let e : first_raised + (s - first_raised) ≡ s = omega arith in
    let t = rw e at (julian_day (s - first_raised) 1 0) in omega (arith, january (divisible 4 (s - first_raised)))

-- 1 March of the raised year 0 is day 260,118.
julian_march : (s d : ℕ) → first_raised ≤ s → day_of julian s 3 d ≡ 260117 + 365 * s + s / 4 + d
julian_march s d l =
    let k = s - first_raised in
    let e : first_raised + k ≡ s = omega arith in
    let t = rw e at (julian_day k 3 d) in omega (arith, march (divisible 4 k), fourth k)

abbrev pub quarters : ℕ → ℕ
quarters j = 4 * (j - 260118) + 3

abbrev pub years : ℕ → ℕ
years j = quarters j / 1461

abbrev pub since_march : ℕ → ℕ
since_march j = quarters j % 1461 / 4

pub julian_in_year : (j : ℕ) → first_day ≤ j → j ≤ last_day → IsMarchDay julian j (years j) (since_march j)
unfolding julian_leap
julian_in_year j l u =
    let n = j - 260118 in
    let s = years j in
    let r = quarters j % 1461 in
    let e : 4 * n + 3 ≡ (4 * 365 + 1) * s + r = omega arith in
    let h : r < 4 * 365 + 1 = omega arith in
    let p : 365 * s + s / 4 + r / 4 ≡ n = place 365 n s r e h in
    let first : first_raised ≤ s = omega arith in
    record {
      first_year = first;
      last_year_lem = omega arith;
      short = omega (arith, short 365 n s r e h, march (divisible 4 (s + 1)));
      place = omega (arith, julian_march s (r / 4 + 1) first);
    }
