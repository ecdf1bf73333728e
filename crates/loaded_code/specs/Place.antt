-- What the step that finds a year's rows answers: their place, or why there is none; nothing that a reader must believe.
use Rattle.std.specs.Prelude.{◌≡◌, Result, MatchResult}
use Rattle.refusals.specs.Refusals.{number_of}
use Rattle.refusals.specs.declared.Refusal.{Refusal}
use Rattle.loaded.specs.Rows.{no_rows}
use Rattle.loaded.specs.declared.RowsAnswer.{RowsAnswer}
use Rattle.loaded_code.specs.declared.years.Place.{Place}

abbrev pub answer_at : Place → RowsAnswer
answer_at place = record { refusal = 0; offset = place.offset; length = place.length }

abbrev pub IsPlace : RowsAnswer → Result Place Refusal → Type 0
IsPlace answer r = MatchResult r (λ place. answer ≡ answer_at place) (λ why. answer ≡ no_rows (number_of why))
