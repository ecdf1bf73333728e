-- What `weekday` promises, and that its contract and those of the steps leave one result.
use mathlib.Core.Path.{◌≡◌, refl}
use mathlib.Core.Bool.{Bool}
use mathlib.Core.List.{[], ◌∷◌}
use Prim.Native.Nat.{ℕ, ◌+◌, ◌%◌}
use native.Mathlib.Omega.{arith}
use Rattle.laws.specs.Promise.{◌else◌, Promised}
use Rattle.laws.proofs.One.{one_result}
use Rattle.laws.proofs.Promises.{ranged, asks, answered}
use Rattle.days.specs.Range.{first_day, last_day, InRange, out_of_range}
use Rattle.days.specs.Weekday.{weekday, weekday_answer}
use Rattle.days.specs.declared.WeekdayAnswer.{WeekdayAnswer}

pub weekday_promised :
    (j : ℕ) → Promised (λ (r : WeekdayAnswer). r.refusal) (InRange j else 4 ∷ []) (λ r. r.weekday ≡ (j + 1) % 7 + 1)
    (λ n r. r.weekday ≡ 0) (weekday_answer j)
unfolding weekday_answer
weekday_promised j = asks (record { refusal = 4; weekday = 0 }) (ranged first_day last_day j) (omega arith) refl refl (λ _. answered refl refl)

pub weekday_one : (j : ℕ) (r s : WeekdayAnswer) → r ≡ weekday_answer j → s ≡ weekday_answer j → r ≡ s
weekday_one j = one_result (weekday_answer j)

pub weekday_of_one : (j r s : ℕ) → r ≡ weekday j → s ≡ weekday j → r ≡ s
weekday_of_one j = one_result (weekday j)

pub out_of_range_one : (j : ℕ) (r s : Bool) → r ≡ out_of_range j → s ≡ out_of_range j → r ≡ s
out_of_range_one j = one_result (out_of_range j)
