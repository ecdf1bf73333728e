-- A record as a call leaves it: as it was worked out, or unchanged where the call is refused.
use Rattle.std.specs.Prelude.{Result, Ok, Err}
use Rattle.refusals.specs.declared.Refusal.{Refusal}
use Rattle.refusals.specs.Refusals.{number_of}
use Rattle.record.specs.Answers.{leaves}
use Rattle.record.specs.declared.DayRecord.{DayRecord}
use Rattle.record.specs.declared.Moved.{Moved}

abbrev pub left : DayRecord → Result DayRecord Refusal → Moved
left r (Ok after) = leaves 0 after
left r (Err why) = leaves (number_of why) r
