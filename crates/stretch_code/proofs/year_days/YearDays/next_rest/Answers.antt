use Rattle.std.proofs.Common.{rules, arith}
use Rattle.hebrew.proofs.Walked.{date_small}
use Rattle.rest.specs.Steps.{rest_at}
use Rattle.stretch.specs.Steps.{next_at}
use Rattle.stretch.proofs.Walk.{at_date}
use Rattle.stretch_code.specs.Days.{rests}
use Rattle.stretch_code.proofs.year_days.YearDays.next_rest.Goals as goal

pub first_from-requires-clause-dates : goal.first_from-requires-clause-dates
first_from-requires-clause-dates c = let b = at_date _ c.args.x _ c.date_after.ensures in (omega arith, b.1)

pub first_from-requires-clause-asked : goal.first_from-requires-clause-asked
first_from-requires-clause-asked c k l = let d = date_small c.args.self.length k c.args.self.measured (omega arith) in search rules

pub returns : goal.returns
unfolding next_at rest_at
returns c =
    let b = at_date _ c.args.x _ c.date_after.ensures in
    rw b.0 at (c.first_from.ensures (rests c.args.self) (λ k b l p. search rules))
