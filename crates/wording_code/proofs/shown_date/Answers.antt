use borrow.Author.Tests.{eq-eqb, ne_eqb}
use Rattle.wording.specs.Answers.{shown_date}
use Rattle.wording_code.proofs.shown_date.Goals as goal

-- The day before the range has its own date, and every other the answer of `to_date`.
pub returns-then-day : goal.returns-then-day
unfolding shown_date
returns-then-day c = rw (eq-eqb _ _ c.if-day.true)

pub returns : goal.returns
unfolding shown_date
returns c = rw (ne_eqb _ _ c.if-day.false) c.to_date.ensures
