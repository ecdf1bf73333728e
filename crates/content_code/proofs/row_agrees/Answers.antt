use Rattle.content.specs.Content.{row_agrees}
use Rattle.content_code.proofs.row_agrees.Goals as goal

pub returns : goal.returns
unfolding row_agrees
returns c = rw (c.number_at.ensures.0, c.number_at-2.ensures.0, c.number_at-3.ensures.0)
