use Rattle.std.proofs.Common.{rules, arith, ℕ, not, ◌-◌}
use Rattle.laws.specs.Search.{seek_not}
use Rattle.laws.proofs.Found.{seek_tells}
use Rattle.hebrew.proofs.Walked.{date_small}
use Rattle.rest.specs.Steps.{rest_at}
use Rattle.stretch.proofs.Walk.{at_date}
use Rattle.stretch_code.specs.Days.{rests}
use Rattle.stretch_code.proofs.year_days.YearDays.past.Goals as goal

pub first_from-requires-clause-asked : goal.first_from-requires-clause-asked
first_from-requires-clause-asked c k l = let d = date_small c.args.self.length k c.args.self.measured (omega arith) in search rules

pub returns : goal.returns
unfolding seek_not rest_at
returns c =
    let free = λ (k : ℕ). not (rests c.args.self k) in
    let e = (at_date _ _ _ (c.first_from.ensures free (λ k b l p. search rules))).0 in
    let t = seek_tells free (c.args.self.length - c.args.from.after) c.args.from.after in
    (e, (omega (arith, e, t.low), omega (arith, e, t.high)))
