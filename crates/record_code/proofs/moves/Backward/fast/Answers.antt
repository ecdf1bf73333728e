use Rattle.record.specs.Steps.{fast_backward}
use Rattle.record_code.proofs.moves.Backward.fast.Goals as goal

pub returns-then-r-may : goal.returns-then-r-may
unfolding fast_backward
returns-then-r-may c = rw (← c.may_fast-may.ensures, c.if-r-may.true)

pub returns : goal.returns
unfolding fast_backward
returns c = rw (← c.may_fast-may.ensures, c.if-r-may.false, ← c.args.self.now.moved) c.ahead.ensures
