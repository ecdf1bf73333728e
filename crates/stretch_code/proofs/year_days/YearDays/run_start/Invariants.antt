-- Where the run begins that ends before day x is where that begins that ends before the day at hand.
use Rattle.std.proofs.Common.{◌≡◌}
use Rattle.laws.specs.Search.{run_start}
use Rattle.stretch_code.specs.Days.{rests}
use Rattle.stretch_code.proofs.year_days.YearDays.run_start.Given as goal

abbrev pub invariant-loop-day : goal.invariant-loop-day
invariant-loop-day l = run_start (rests l.self) l.x ≡ run_start (rests l.self) l.day
