use Rattle.record.specs.Steps.{fast_onward}
use Rattle.record_code.proofs.moves.Onward.fast.Goals as goal

pub returns-then-r : goal.returns-then-r
unfolding fast_onward
returns-then-r c = rw c.if-r.true

pub returns : goal.returns
unfolding fast_onward
returns c = rw (c.if-r.false, ← c.args.self.now.moved) c.ahead.ensures
