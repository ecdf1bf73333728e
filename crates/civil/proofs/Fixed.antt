-- The words of this crate are these numbers.
use mathlib.Core.Path.{◌≡◌, refl}
use Prim.Native.Nat.{ℕ}
use native.Mathlib.Omega.{arith}
use lib.IntN.{ℤ, pos, negsuc}
use Rattle.civil.specs.Calendar.{julian, gregorian, julian_leap, gregorian_leap, month_days, days_before, day_of}
use Rattle.civil.specs.Answers.{civil_day, civil_date}
use Rattle.civil.specs.Fixed.{BothWays, WordsFixed}
use Rattle.civil.proofs.JulianYears.{julian_day}
use Rattle.civil.proofs.GregorianYears.{gregorian_day}
use Rattle.civil.proofs.Theorems.{julian_back_and_there, gregorian_back_and_there}

in_julian : (y : ℤ) (m d j : ℕ) → civil_day julian y m d ≡ record { refusal = 0; day = j } → BothWays julian y m d j
in_julian y m d j e = (e, julian_back_and_there y m d j e)

in_gregorian : (y : ℤ) (m d j : ℕ) → civil_day gregorian y m d ≡ record { refusal = 0; day = j } → BothWays gregorian y m d j
in_gregorian y m d j e = (e, gregorian_back_and_there y m d j e)

-- The day numbers, from the years' starts. A raised year is the year + 4,000.
pub words_fixed : WordsFixed
unfolding civil_day civil_date month_days days_before julian_leap gregorian_leap
words_fixed =
    let first : day_of gregorian 240 9 7 ≡ 347998 = omega (arith, gregorian_day 240 9 7 (omega arith)) in
    let eve : day_of gregorian 240 9 6 ≡ 347997 = omega (arith, gregorian_day 240 9 6 (omega arith)) in
    let last : day_of gregorian 10239 9 25 ≡ 4000075 = omega (arith, gregorian_day 10239 9 25 (omega arith)) in
    let past : day_of gregorian 10239 9 26 ≡ 4000076 = omega (arith, gregorian_day 10239 9 26 (omega arith)) in
    let in-minus-4 : day_of gregorian 3996 2 29 ≡ 1719658 = omega (arith, gregorian_day 3996 2 29 (omega arith)) in
    let in-0 : day_of gregorian 4000 2 29 ≡ 1721119 = omega (arith, gregorian_day 4000 2 29 (omega arith)) in
    let in-2000 : day_of gregorian 6000 2 29 ≡ 2451604 = omega (arith, gregorian_day 6000 2 29 (omega arith)) in
    let in-1582 : day_of gregorian 5582 10 15 ≡ 2299161 = omega (arith, gregorian_day 5582 10 15 (omega arith)) in
    let new-year : day_of gregorian 6001 1 1 ≡ 2451911 = omega (arith, gregorian_day 6001 1 1 (omega arith)) in
    let years-eve : day_of gregorian 6001 12 31 ≡ 2452275 = omega (arith, gregorian_day 6001 12 31 (omega arith)) in
    record {
      common_year = refl;
      leap_year = refl;
      years = λ y. (λ m. m, λ m. m);
      civil_months = λ m. (λ p. p, λ p. p);
      julian_ends = (in_julian (negsuc 3759) 10 7 347998 (rw (julian_day 0 10 7)), in_julian (pos 6239) 8 11 4000075 (rw (julian_day 9999 8 11)));
      gregorian_ends = (in_gregorian (negsuc 3759) 9 7 347998 (rw first), in_gregorian (pos 6239) 9 25 4000075 (rw last));
      julian_days = (
        in_julian (negsuc 3) 2 29 1719656 (rw (julian_day 3756 2 29)),
        in_julian (pos 0) 2 29 1721117 (rw (julian_day 3760 2 29)),
        in_julian (pos 1900) 2 29 2415092 (rw (julian_day 5660 2 29)),
        in_julian (pos 1582) 10 4 2299160 (rw (julian_day 5342 10 4)),
      );
      gregorian_days = (
        in_gregorian (negsuc 3) 2 29 1719658 (rw in-minus-4),
        in_gregorian (pos 0) 2 29 1721119 (rw in-0),
        in_gregorian (pos 2000) 2 29 2451604 (rw in-2000),
        in_gregorian (pos 1582) 10 15 2299161 (rw in-1582),
      );
      year_ends = (
        in_julian (pos 2001) 1 1 2451924 (rw (julian_day 5761 1 1)),
        in_julian (pos 2001) 12 31 2452288 (rw (julian_day 5761 12 31)),
        in_gregorian (pos 2001) 1 1 2451911 (rw new-year),
        in_gregorian (pos 2001) 12 31 2452275 (rw years-eve),
      );
      no_year = (refl, refl, refl, refl);
      no_month_is = (refl, refl, refl, refl);
      no_day_is = (refl, refl, refl, refl, refl, refl);
      outside_range = (rw (julian_day 0 10 6), rw (julian_day 9999 8 12), rw eve, rw past);
      no_date_is = (refl, refl, refl, refl);
    }
