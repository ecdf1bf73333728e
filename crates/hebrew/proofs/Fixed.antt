-- The words of this crate are these numbers, worked out from the closed month count.
use mathlib.Core.Path.{◌≡◌, refl, ◌∙◌}
use Prim.Native.Nat.{ℕ, ◌+◌, ◌-◌}
use native.Mathlib.Omega.{arith}
use Rattle.molad.specs.Years.{InYears, leap}
use Rattle.molad.specs.Molad.{no_month}
use Rattle.newyear.specs.NewYear.{new_year, year_length}
use Rattle.newyear.proofs.Quick.{quick, new_year_quick}
use Rattle.hebrew.specs.Months.{month_length, days_before}
use Rattle.hebrew.specs.Dates.{day_number}
use Rattle.hebrew.specs.Answers.{month_answer, hebrew_day, hebrew_date}
use Rattle.hebrew.specs.Fixed.{BothWays, WordsFixed}
use Rattle.hebrew.proofs.RoundTrip.{back_and_there}

begins : (h start : ℕ) → InYears h → quick h ≡ start → new_year h ≡ start
begins h start y e = new_year_quick h y.0 ∙ e

long : (h len : ℕ) → InYears h → quick (h + 1) - quick h ≡ len → year_length h ≡ len
unfolding year_length
long h len y e = rw (new_year_quick h y.0, new_year_quick (h + 1) (omega arith)) e

-- A date of a year with this New Year and this length.
both_ways :
    (h code d j start len place : ℕ) → new_year h ≡ start → year_length h ≡ len → j - start + 1 ≡ place →
    hebrew_day h code d ≡ record { refusal = 0; day = j } → BothWays h code d j start len place
both_ways h code d j start len place s l p e = (e, rw (s, l, p) at (back_and_there h code d j e))

pub words_fixed : WordsFixed
unfolding month_answer hebrew_day hebrew_date day_number month_length days_before no_month leap quick
words_fixed =
    let b1 = begins 1 347998 (omega arith) refl in
    let l1 = long 1 355 (omega arith) refl in
    let l3 = long 3 383 (omega arith) refl in
    let b9999 = begins 9999 3999723 (omega arith) refl in
    let l9999 = long 9999 353 (omega arith) refl in
    let b5775 = begins 5775 2456926 (omega arith) refl in
    let l5775 = long 5775 354 (omega arith) refl in
    let b5762 = begins 5762 2452171 (omega arith) refl in
    let l5762 = long 5762 354 (omega arith) refl in
    record {
      rows = (refl, refl);
      common_years = (refl, refl, refl);
      leap_years = (refl, refl, refl);
      lengths = (refl, refl, rw l3);
      no_lengths = (refl, refl, refl, refl, refl);
      dates = (
        both_ways 1 1 1 347998 347998 355 1 b1 l1 refl (rw b1),
        both_ways 9999 13 29 4000075 3999723 353 353 b9999 l9999 refl (rw (b9999, l9999)),
        both_ways 5775 1 3 2456928 2456926 354 3 b5775 l5775 refl (rw b5775),
        both_ways 5762 3 30 2452259 2452171 354 89 b5762 l5762 refl (rw (b5762, l5762)),
        both_ways 5762 10 6 2452412 2452171 354 242 b5762 l5762 refl (rw (b5762, l5762)),
      );
      no_year = (refl, refl);
      no_month_is = (refl, refl, refl);
      no_day_is = (refl, refl, refl, rw l5762);
      no_date_is = (refl, refl);
    }
