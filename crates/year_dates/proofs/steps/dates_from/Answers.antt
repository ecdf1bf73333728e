use Rattle.year_dates.specs.Left.{left}
use Rattle.year_dates.proofs.Walked.{walks}
use Rattle.std.proofs.Common.{arith}
use Rattle.hebrew.specs.Steps.{year_date}
use Rattle.year_dates.proofs.steps.dates_from.Goals as goal

pub invariant_of-result : goal.invariant_of-result
invariant_of-result c = record { is_walk = walks _ _ _ c.requires.0 (omega arith) c.date_after-date.ensures; counted = c.days_in.ensures }

pub returns : goal.returns
unfolding year_date left
returns c = rw c.date_after-date.ensures
