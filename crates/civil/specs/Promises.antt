-- What the public functions promise, with signed years: the four answers of both calendars in two statements. A year's
-- leap rule is that of its own number, and a date's day number is the one that is counted to it.
use Rattle.std.specs.Prelude.{◌≡◌, true, false, [], ◌∷◌, ℕ, ◌≤◌, ℤ, pos}
use Rattle.laws.specs.Promise.{◌else◌, Promised}
use Rattle.days.specs.Range.{InRange}
use Rattle.civil.specs.Signed.{InCivilYears, raised}
use Rattle.civil.specs.Calendar.{Calendar, month_days, day_of}
use Rattle.civil.specs.declared.CivilDay.{CivilDay}
use Rattle.civil.specs.declared.CivilDate.{CivilDate}

abbrev pub IsCivilMonth : ℕ → Type 0
IsCivilMonth m = (1 ≤ m) × (m ≤ 12)

-- Day d lies in 1..the length of month m, in a year that is leap or in one that is not.
abbrev pub InCivilMonth : Type 0 → ℕ → ℕ → Type 0
InCivilMonth LeapYear m d = (1 ≤ d) × ((LeapYear → d ≤ month_days true m) × ((¬ LeapYear) → d ≤ month_days false m))

-- From a date to its day: answered exactly if the date is good and its day lies in the range.
abbrev pub PromisedDay : Calendar → (ℤ → Type 0) → ℤ → ℕ → ℕ → CivilDay → Type 0
PromisedDay cal LeapYear y m d =
    Promised (λ (r : CivilDay). r.refusal)
    (InCivilYears y else 5
    ∷ IsCivilMonth m else 6
    ∷ InCivilMonth (LeapYear y) m d else 7
    ∷ InRange (day_of cal (raised y) m d) else 8
    ∷ [])
    (λ r. r.day ≡ day_of cal (raised y) m d)
    (λ n r. r.day ≡ 0)

-- The date answered has day j, and is good.
abbrev pub IsDateOf : Calendar → (ℤ → Type 0) → ℕ → CivilDate → Type 0
IsDateOf cal LeapYear j r =
    (day_of cal (raised r.year) r.month r.day ≡ j)
    × (InCivilYears r.year × (IsCivilMonth r.month × InCivilMonth (LeapYear r.year) r.month r.day))

-- From a day to its date.
abbrev pub PromisedDate : Calendar → (ℤ → Type 0) → ℕ → CivilDate → Type 0
PromisedDate cal LeapYear j =
    Promised (λ (r : CivilDate). r.refusal)
    (InRange j else 4 ∷ [])
    (IsDateOf cal LeapYear j)
    (λ n r. (r.year ≡ pos 0) × ((r.month ≡ 0) × (r.day ≡ 0)))
