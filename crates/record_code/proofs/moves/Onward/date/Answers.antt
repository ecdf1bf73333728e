use Rattle.record.specs.Steps.{date_on}
use Rattle.record_code.proofs.moves.Onward.date.Goals as goal

pub returns-then-r : goal.returns-then-r
unfolding date_on
returns-then-r c = rw c.if-r.true

pub returns : goal.returns
unfolding date_on
returns c = rw (c.if-r.false, ← c.args.self.now.moved) c.dated.ensures
