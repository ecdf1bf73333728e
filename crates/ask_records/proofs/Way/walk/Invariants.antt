use Rattle.std.proofs.Common.{◌<◌}
use Rattle.ask_records.proofs.Way.walk.Given as goal

-- At most one is counted at each move.
abbrev pub invariant-loop-passed : goal.invariant-loop-passed
invariant-loop-passed l = l.agreed < l.passed
