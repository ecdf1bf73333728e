-- A row that is a date of a year of a given length, and the good date that it is in a year.
use mathlib.Core.Path.{◌≡◌}
use mathlib.Core.Bool.{true, not}
use Prim.Native.Nat.{ℕ, ◌/◌, ◌%◌, ◌≤◌}
use native.Mathlib.Omega.{arith}
use borrow.Author.Tests.{not-true}
use lib.Dec.{leb}
use Rattle.laws.specs.Runs.{outside}
use Rattle.laws.proofs.Tests.{and_left, and_right, within}
use Rattle.molad.specs.Years.{InYears}
use Rattle.newyear.specs.NewYear.{year_length}
use Rattle.newyear.proofs.Lengths.{length_leap}
use Rattle.hebrew.specs.Months.{month_length}
use Rattle.hebrew.specs.Dates.{GoodHebrewDate}
use Rattle.hebrew.specs.Rows.{row_date, row_good}
use Rattle.hebrew.proofs.Dates.{adar_one}

-- A row that is a date of a year of this length.
pub record GoodRow (len r : ℕ) : Type 0 where
  pub code : (1 ≤ r / 100) × (r / 100 ≤ 13)
  pub day : (1 ≤ r % 100) × (r % 100 ≤ month_length len (r / 100))

pub good_row : (len r : ℕ) → row_good len r ≡ true → GoodRow len r
unfolding row_good
good_row len r e =
    record {
      code = within 1 13 _ (not-true _ (and_left _ _ e));
      day = within 1 _ _ (not-true _ (and_right (not (outside 1 13 (r / 100))) _ e));
    }

-- A good row is a good date of the year.
pub row_date_lem : (h r : ℕ) → InYears h → GoodRow (year_length h) r → GoodHebrewDate (row_date h r)
unfolding month_length
row_date_lem h r y g =
    record {
      of_years = y;
      of_year = (
        g.code,
        λ q. rw (← length_leap h y.0 (omega arith)) (adar_one (leb 383 (year_length h)) 0 0 (omega arith) (omega (arith, rw q at g.day))),
      );
      of_month = g.day;
    }
