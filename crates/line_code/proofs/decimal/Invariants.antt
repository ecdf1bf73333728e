use Rattle.std.proofs.Common.{◌≡◌, ◌<◌, ◌^◌, take}
use Rattle.line.specs.Line.{decimal}
use Rattle.line_code.proofs.decimal.Given as goal

-- The number of the figures passed, one more at each turn.
abbrev pub invariant-loop-byte : goal.invariant-loop-byte
invariant-loop-byte l = (l.number ≡ decimal (take l.byte-index l.line)) × (l.number < 10 ^ l.byte-index)
