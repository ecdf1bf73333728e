use Rattle.std.proofs.Common.{◌≡◌}
use lib.ListN.{drop}
use Rattle.fasts.specs.Fasts.{fast_table, fast_day}
use Rattle.fasts.specs.Ahead.{ahead_in}
use Rattle.fasts_code.proofs.ahead_in.Given as goal

-- The fasts that have been passed are over before the day.
abbrev pub invariant-loop-row : goal.invariant-loop-row
invariant-loop-row l =
    ahead_in (fast_day l.span.year) l.day fast_table ≡ ahead_in (fast_day l.span.year) l.day (drop l.row-index fast_table)
