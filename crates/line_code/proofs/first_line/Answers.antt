use Rattle.line.proofs.Lines.{to_line_feed}
use Rattle.line_code.proofs.first_line.Goals as goal

-- The part before the first line feed is the first line.
pub returns : goal.returns
returns c = rw c.find.ensures.first (to_line_feed c.args.input.now)
