-- Where the months begin, by the count that begins in March and before it, and the month of a day of the year.
use mathlib.Core.Path.{◌≡◌, refl}
use mathlib.Core.Bool.{Bool, true, false}
use mathlib.Core.List.{List, [], ◌∷◌}
use Prim.Native.Nat.{ℕ, ◌+◌, ◌-◌, ◌*◌, ◌/◌, ◌%◌, ◌≤◌, ◌<◌}
use native.Mathlib.Omega.{arith}
use mir.Val.{bool_byte}
use borrow.Author.Tests.{eqb-true, leb-true}
use lib.Dec.{eqb, leb}
use Rattle.laws.specs.Runs.{every}
use Rattle.laws.proofs.Tests.{at, all, facts}
use Rattle.civil.specs.Calendar.{month_days, days_before, year_days}
use Rattle.civil.specs.Good.{IsMonthDay}
use Rattle.civil.proofs.MonthStarts.{march, year_days_lem}

-- January and February.
abbrev early_start : Bool → ℕ → Bool
early_start leap m = eqb (31 * (m - 1)) (days_before leap m)

early_starts : (leap : Bool) → every 1 2 (early_start leap) ≡ true
unfolding every days_before month_days
early_starts true = refl
early_starts false = refl

pub early_start_lem : (leap : Bool) (m : ℕ) → 1 ≤ m → m < 3 → 31 * (m - 1) ≡ days_before leap m
early_start_lem leap m l u = eqb-true _ _ (at 1 2 (early_start leap) (early_starts leap) m l (omega arith))

-- March to December, and the end of the year.
abbrev start : Bool → ℕ → ℕ
start leap m = 59 + bool_byte leap + (153 * (m - 3) + 2) / 5

abbrev late_start : Bool → ℕ → Bool
late_start leap m = eqb (start leap m) (days_before leap m)

late_starts : (leap : Bool) → every 3 11 (late_start leap) ≡ true
unfolding every days_before month_days
late_starts true = refl
late_starts false = refl

pub late_start_lem : (leap : Bool) (m : ℕ) → 3 ≤ m → m ≤ 13 → start leap m ≡ days_before leap m
late_start_lem leap m l u = eqb-true _ _ (at 3 11 (late_start leap) (late_starts leap) m l (omega arith))

-- Day y of the year is day d of month m.
tests : Bool → ℕ → ℕ → ℕ → List Bool
tests leap y m d = leb 1 m ∷ leb m 12 ∷ leb 1 d ∷ leb d (month_days leap m) ∷ eqb (days_before leap m + d) (y + 1) ∷ []

tested : (leap : Bool) (y m d : ℕ) → all (tests leap y m d) ≡ true → IsMonthDay leap y m d
unfolding tests
tested leap y m d e = let t = facts (tests leap y m d) e in omega (arith, leb-true, eqb-true)

-- The days before March.
abbrev early_month : Bool → ℕ → Bool
early_month leap y = all (tests leap y (y / 31 + 1) (y % 31 + 1))

early_months : (leap : Bool) → every 0 (days_before leap 3) (early_month leap) ≡ true
unfolding every tests days_before month_days
early_months true = refl
early_months false = refl

pub early_month_lem : (leap : Bool) (y : ℕ) → y < days_before leap 3 → IsMonthDay leap y (y / 31 + 1) (y % 31 + 1)
early_month_lem leap y h = tested leap y _ _ (at 0 (days_before leap 3) (early_month leap) (early_months leap) y (omega arith) (omega arith))

-- The days from March on, x days after 1 March.
abbrev month_at : ℕ → ℕ
month_at x = (5 * x + 2) / 153 + 3

abbrev day_at : ℕ → ℕ
day_at x = (5 * x + 2) % 153 / 5 + 1

abbrev late_month : Bool → ℕ → Bool
late_month leap x = all (tests leap (days_before leap 3 + x) (month_at x) (day_at x))

late_months : (leap : Bool) → every 0 306 (late_month leap) ≡ true
unfolding every tests days_before month_days
late_months true = refl
late_months false = refl

pub late_month_lem :
    (leap : Bool) (y : ℕ) → days_before leap 3 ≤ y → y < year_days leap → let x = y - days_before leap 3 in
    IsMonthDay leap y (month_at x) (day_at x)
late_month_lem leap y l u =
    let x = y - days_before leap 3 in
    let e : days_before leap 3 + x ≡ y = omega arith in
    let t = at 0 306 (late_month leap) (late_months leap) x (omega arith) (omega (arith, march leap, year_days_lem leap)) in
    rw e at (tested leap (days_before leap 3 + x) _ _ t)
