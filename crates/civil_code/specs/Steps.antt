-- What the steps of the code promise one another.
use Rattle.std.specs.Prelude.{ℕ, Result, Ok, Err}
use Rattle.refusals.specs.declared.Refusal.{Refusal}
use Rattle.refusals.specs.Refusals.{number_of}
use Rattle.civil.specs.declared.CivilDay.{CivilDay}

-- The answer for a day, or for a refusal by its name.
abbrev pub answered : Result ℕ Refusal → CivilDay
answered (Ok j) = record { refusal = 0; day = j }
answered (Err why) = record { refusal = number_of why; day = 0 }
