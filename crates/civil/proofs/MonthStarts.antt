-- The months of a year: their starts rise, and a year has 365 days, or 366 if it is leap.
use mathlib.Core.Path.{◌≡◌, refl, ap}
use mathlib.Core.Bool.{Bool, true, false, cond}
use mathlib.Core.Logic.{by_cases}
use Prim.Native.Nat.{ℕ, zero, suc, ◌+◌, ◌≤◌, ◌<◌}
use native.Mathlib.Omega.{arith}
use native.Mathlib.Decide.{ℕ_discrete, dec_lt}
use native.Mathlib.Numerals.{add-one}
use borrow.Author.Tests.{leb-true}
use lib.Dec.{leb}
use Rattle.laws.specs.Runs.{every}
use Rattle.laws.proofs.Tests.{at}
use Rattle.civil.specs.Calendar.{month_days, days_before, year_days}
use Rattle.civil.specs.Good.{IsMonthDay}

pub january : (leap : Bool) → days_before leap 1 ≡ 0
unfolding days_before month_days
january leap = refl

pub march : (leap : Bool) → days_before leap 3 ≡ 59 + cond leap 1 0
unfolding days_before month_days
march true = refl
march false = refl

pub next_month : (leap : Bool) (m : ℕ) → days_before leap (m + 1) ≡ days_before leap m + month_days leap m
unfolding days_before
next_month leap m = rw add-one

pub year_days_lem : (leap : Bool) → year_days leap ≡ 365 + cond leap 1 0
unfolding year_days days_before month_days
year_days_lem true = refl
year_days_lem false = refl

pub at_most : (leap : Bool) → year_days leap ≤ 366
at_most true = omega (arith, year_days_lem true)
at_most false = omega (arith, year_days_lem false)

pub year_whole : (leap : Bool) → year_days leap ≡ days_before leap 13
unfolding year_days
year_whole leap = refl

long_all : (leap : Bool) → every 1 12 (λ m. leb 28 (month_days leap m)) ≡ true
unfolding every month_days
long_all true = refl
long_all false = refl

pub month_long : (leap : Bool) (m : ℕ) → 1 ≤ m → m ≤ 12 → 28 ≤ month_days leap m
month_long leap m l u = leb-true _ _ (at 1 12 (λ m. leb 28 (month_days leap m)) (long_all leap) m l (omega arith))

-- A month ends before a later one begins.
pub months_rise : (leap : Bool) (a b : ℕ) → a < b → days_before leap a + month_days leap a ≤ days_before leap b
unfolding days_before
months_rise leap a zero p = absurd (omega arith)
months_rise leap a (suc b) p =
    by_cases (ℕ_discrete a b) (λ q. rw q (omega arith)) (λ q. omega (arith, months_rise leap a b (omega arith)))

pub before_most : (leap : Bool) (m : ℕ) → m ≤ 13 → days_before leap m ≤ 366
before_most leap m u =
    by_cases (ℕ_discrete m 13)
    (λ p. rw p (omega (arith, year_whole leap, at_most leap)))
    (λ p. omega (arith, months_rise leap m 13 (omega arith), year_whole leap, at_most leap))

-- A day of the year has one month and day.
pub one_month :
    (leap : Bool) (y m d n e : ℕ) → IsMonthDay leap y m d → IsMonthDay leap y n e → (m ≡ n) × (d ≡ e)
one_month leap y m d n e p q =
    let same : m ≡ n =
    by_cases (dec_lt m n)
    (λ h. omega (arith, months_rise leap m n h))
    (λ h. by_cases (dec_lt n m) (λ k. omega (arith, months_rise leap n m k)) (λ k. omega arith)) in
    (same, omega (arith, ap (days_before leap) same))
