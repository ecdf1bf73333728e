use Rattle.newyear.specs.Answers.{year_of_day_answer}
use Rattle.newyear_code.proofs.year_of_day.Goals as goal

pub returns-then-out_of_range : goal.returns-then-out_of_range
unfolding year_of_day_answer
returns-then-out_of_range c = rw (← c.out_of_range.ensures, c.if-out_of_range.true) cc

pub returns : goal.returns
unfolding year_of_day_answer
returns c = rw (← c.out_of_range.ensures, c.if-out_of_range.false, c.year_of.ensures.year)
