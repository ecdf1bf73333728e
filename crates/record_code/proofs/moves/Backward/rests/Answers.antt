use borrow.Author.Tests.{eq-eqb, ne_eqb}
use Rattle.record.specs.Steps.{rests}
use Rattle.record_code.proofs.moves.Backward.rests.Goals as goal

pub returns-then-weekday_of-eq7 : goal.returns-then-weekday_of-eq7
unfolding rests
returns-then-weekday_of-eq7 c = rw (← c.weekday_of.ensures, eq-eqb _ _ c.if-weekday_of-eq7.true)

pub returns-else-weekday_of-eq7 : goal.returns-else-weekday_of-eq7
unfolding rests
returns-else-weekday_of-eq7 c = rw (← c.args.self.now.its_wing, ← c.weekday_of.ensures, ne_eqb _ _ c.if-weekday_of-eq7.false) c.kept.ensures
