-- What is answered for a stretch that was found, or for none.
use Rattle.std.specs.Prelude.{Option, Some, None, Result, Ok, Err}
use Rattle.refusals.specs.declared.Refusal.{Refusal}
use Rattle.refusals.specs.Refusals.{number_of}
use Rattle.stretch.specs.Answers.{no_stretch}
use Rattle.stretch.specs.declared.StretchAnswer.{StretchAnswer}
use Rattle.stretch_code.specs.declared.found.NextStretch.{NextStretch}

abbrev pub told : NextStretch → StretchAnswer
told s = record { refusal = 0; first = s.first; length = s.length; days_left = s.days_left }

-- Refusal 9: none is left in range.
abbrev pub found_answer : Option NextStretch → StretchAnswer
found_answer (Some s) = told s
found_answer None = no_stretch 9

abbrev pub asked_answer : Result NextStretch Refusal → StretchAnswer
asked_answer (Ok s) = told s
asked_answer (Err why) = no_stretch (number_of why)
