-- What the date of a day shown promises: the date has that day, and is good.
use Rattle.std.specs.Prelude.{◌≡◌, [], ◌∷◌, ℕ, ◌≤◌, pos}
use Rattle.laws.specs.Promise.{◌else◌, Promised}
use Rattle.days.specs.Range.{last_day}
use Rattle.civil.specs.Signed.{GregorianLeapYear}
use Rattle.civil.specs.Calendar.{gregorian}
use Rattle.civil.specs.Promises.{IsDateOf}
use Rattle.civil.specs.declared.CivilDate.{CivilDate}
use Rattle.wording.specs.Answers.{first_shown}

-- A day that a notice may show.
abbrev pub MayBeShown : ℕ → Type 0
MayBeShown j = (first_shown ≤ j) × (j ≤ last_day)

abbrev pub PromisedShownDate : ℕ → CivilDate → Type 0
PromisedShownDate j =
    Promised (λ (r : CivilDate). r.refusal)
    (MayBeShown j else 4 ∷ [])
    (IsDateOf gregorian GregorianLeapYear j)
    (λ n r. (r.year ≡ pos 0) × ((r.month ≡ 0) × (r.day ≡ 0)))
