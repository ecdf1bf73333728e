-- What is answered for charging that was planned, or why there is none.
use Rattle.std.specs.Prelude.{Result, Ok, Err}
use Rattle.refusals.specs.declared.Refusal.{Refusal}
use Rattle.refusals.specs.Refusals.{number_of}
use Rattle.charger.specs.Answers.{no_start}
use Rattle.charger.specs.declared.ChargeAnswer.{ChargeAnswer}
use Rattle.charger_code.specs.declared.Charging.{Charging}

abbrev pub charged : Result Charging Refusal → ChargeAnswer
charged (Ok c) = record { refusal = 0; start = c.start; hours = c.hours; first = c.stretch.first; length = c.stretch.length }
charged (Err why) = no_start (number_of why)
