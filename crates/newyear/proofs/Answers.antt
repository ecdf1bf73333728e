-- What `new_year`, `year`, `kind` and `year_of_day` promise, and that each contract leaves one answer.
use mathlib.Core.Path.{◌≡◌, refl}
use mathlib.Core.Bool.{cond}
use mathlib.Core.List.{[], ◌∷◌}
use Prim.Native.Nat.{ℕ, ◌+◌, ◌-◌, ◌%◌}
use native.Mathlib.Omega.{arith}
use Rattle.laws.specs.Promise.{◌else◌, Promised}
use Rattle.laws.proofs.Tests.{place_of}
use Rattle.laws.proofs.One.{one_result}
use Rattle.laws.proofs.Promises.{ranged, asks, answered}
use Rattle.days.specs.Range.{first_day, last_day, InRange}
use Rattle.days.specs.Weekday.{weekday}
use Rattle.molad.specs.Years.{last_year, InYears, last_new_year, InNewYears, out_of_new_years, leap, months_in}
use Rattle.molad.specs.Molad.{molad_day, molad_time}
use Rattle.delays.specs.declared.Delayed.{Delayed}
use Rattle.delays.specs.Promises.{Explained}
use Rattle.delays.proofs.Late.{explained}
use Rattle.newyear.specs.NewYear.{delay_in, new_year, year_length, InYear}
use Rattle.newyear.specs.Kinds.{kinds, kind_of, kind_number}
use Rattle.newyear.specs.Answers.{no_new_year, new_year_on, new_year_answer, year_answer, no_kind, kind_answer, year_of_day_answer}
use Rattle.newyear.specs.Promises.{PromisedNewYear, PromisedKind}
use Rattle.newyear.specs.declared.NewYearAnswer.{NewYearAnswer}
use Rattle.newyear.specs.declared.YearAnswer.{YearAnswer}
use Rattle.newyear.specs.declared.KindAnswer.{KindAnswer}
use Rattle.newyear.specs.declared.YearOfDayAnswer.{YearOfDayAnswer}
use Rattle.newyear.proofs.Lengths.{kind_in}
use Rattle.newyear.proofs.YearOf.{held}

-- By either route: New Year comes after the molad by the delay, which has its cause.
pub on_promised :
    (h j moladJ t : ℕ) (late : Delayed) →
    (InNewYears h → (moladJ + late.delay ≡ j) × Explained (weekday moladJ) t (leap h) (leap (h - 1)) late.delay late.cause) →
    PromisedNewYear h j moladJ t (cond (out_of_new_years h) (no_new_year 1) (new_year_on j moladJ t late))
on_promised h j moladJ t late why =
    asks (no_new_year 1) (ranged 1 last_new_year h) (omega arith) refl (refl, (refl, (refl, (refl, (refl, (refl, refl)))))) (λ y.
    answered refl ((refl, refl), ((refl, (refl, refl)), why y)))

-- Why New Year comes so many days after the molad of Tishri, in every year.
pub because :
    (h : ℕ) →
    (molad_day h 1 + (delay_in h).delay ≡ new_year h)
    × Explained (weekday (molad_day h 1)) (molad_time h 1) (leap h) (leap (h - 1)) (delay_in h).delay (delay_in h).cause
unfolding new_year delay_in
because h = (refl, explained (weekday (molad_day h 1)) (molad_time h 1) (leap h) (leap (h - 1)) (omega arith) (omega arith))

pub new_year_promised : (h : ℕ) → PromisedNewYear h (new_year h) (molad_day h 1) (molad_time h 1) (new_year_answer h)
unfolding new_year_answer
new_year_promised h = on_promised h (new_year h) (molad_day h 1) (molad_time h 1) (delay_in h) (λ _. because h)

pub year_promised :
    (h : ℕ) →
    Promised (λ (r : YearAnswer). r.refusal) (InYears h else 1 ∷ [])
    (λ r.
    ((r.new_year ≡ new_year h) × (r.weekday ≡ (new_year h + 1) % 7 + 1))
    × (((r.length ≡ new_year (h + 1) - new_year h) × (r.months ≡ cond (leap h) 13 12))
    × ((molad_day h 1 + r.delay ≡ new_year h)
    × Explained ((molad_day h 1 + 1) % 7 + 1) (molad_time h 1) (leap h) (leap (h - 1)) r.delay r.cause)))
    (λ n r.
    (r.new_year ≡ 0)
    × ((r.weekday ≡ 0) × ((r.length ≡ 0) × ((r.months ≡ 0) × ((r.delay ≡ 0) × (r.cause ≡ 0))))))
    (year_answer h)
unfolding year_answer year_length months_in
year_promised h =
    asks (record { refusal = 1; new_year = 0; weekday = 0; length = 0; months = 0; delay = 0; cause = 0 }) (ranged 1 last_year h) (omega arith) refl (refl, (refl, (refl, (refl, (refl, refl))))) (λ _.
    answered refl ((refl, refl), ((refl, refl), because h)))

-- The kind told is one of the fourteen.
pub kind_promised : (h : ℕ) → PromisedKind h (kind_answer h)
unfolding kind_answer kind_number kind_of year_length
kind_promised h =
    asks no_kind (ranged 1 last_year h) (omega arith) refl (refl, (refl, refl)) (λ y.
    let p = place_of kinds (kind_of h) (kind_in h y.0 (omega arith)) in
    answered refl ((refl, refl), ((p.0, p.1), p.2)))

-- The year told holds the day.
pub year_of_day_promised :
    (j : ℕ) →
    Promised (λ (r : YearOfDayAnswer). r.refusal) (InRange j else 4 ∷ []) (λ r. InYear j r.year) (λ n r. r.year ≡ 0)
    (year_of_day_answer j)
unfolding year_of_day_answer
year_of_day_promised j =
    asks (record { refusal = 4; year = 0 }) (ranged first_day last_day j) (omega arith) refl refl (λ m.
    answered refl (held j m.0 m.1))

-- One answer.
pub new_year_one : (h : ℕ) (r s : NewYearAnswer) → r ≡ new_year_answer h → s ≡ new_year_answer h → r ≡ s
new_year_one h = one_result (new_year_answer h)

pub year_one : (h : ℕ) (r s : YearAnswer) → r ≡ year_answer h → s ≡ year_answer h → r ≡ s
year_one h = one_result (year_answer h)

pub kind_one : (h : ℕ) (r s : KindAnswer) → r ≡ kind_answer h → s ≡ kind_answer h → r ≡ s
kind_one h = one_result (kind_answer h)

pub year_of_day_one : (j : ℕ) (r s : YearOfDayAnswer) → r ≡ year_of_day_answer j → s ≡ year_of_day_answer j → r ≡ s
year_of_day_one j = one_result (year_of_day_answer j)
