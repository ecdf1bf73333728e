use Rattle.record.specs.Steps.{date_back}
use Rattle.record_code.proofs.moves.Backward.date.Goals as goal

pub returns-then-r : goal.returns-then-r
unfolding date_back
returns-then-r c = rw c.if-r.true

pub returns : goal.returns
unfolding date_back
returns c = rw (c.if-r.false, ← c.args.self.now.moved) c.dated.ensures
