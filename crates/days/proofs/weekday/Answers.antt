use Rattle.days.specs.Weekday.{weekday_answer}
use Rattle.days.proofs.weekday.Goals as goal

pub returns-then-out_of_range : goal.returns-then-out_of_range
unfolding weekday_answer
returns-then-out_of_range c = rw (← c.out_of_range.ensures, c.if-out_of_range.true) cc

pub returns : goal.returns
unfolding weekday_answer
returns c = rw (← c.out_of_range.ensures, c.if-out_of_range.false, c.weekday_of.ensures)
