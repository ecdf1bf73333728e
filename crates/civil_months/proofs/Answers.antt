-- The contract of each step leaves one result.
use mathlib.Core.Path.{◌≡◌}
use mathlib.Core.Bool.{Bool}
use Prim.Native.Nat.{ℕ}
use Rattle.laws.proofs.One.{one_result}
use Rattle.civil.specs.Calendar.{days_before}
use Rattle.civil.specs.Good.{IsMonthDay}
use Rattle.civil.proofs.MonthStarts.{one_month}
use Rattle.civil_months.specs.declared.MonthDay.{MonthDay}

pub days_before_one : (leap : Bool) (m r s : ℕ) → r ≡ days_before leap m → s ≡ days_before leap m → r ≡ s
days_before_one leap m = one_result (days_before leap m)

pub month_of_one : (leap : Bool) (y : ℕ) (r s : MonthDay) → IsMonthDay leap y r.month r.day → IsMonthDay leap y s.month s.day → r ≡ s
month_of_one leap y r s p q =
    let same = one_month leap y r.month r.day s.month s.day p q in λ i. record { month = same.0 i; day = same.1 i }
