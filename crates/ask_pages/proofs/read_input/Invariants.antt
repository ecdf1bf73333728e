use Rattle.std.proofs.Common.{length}
use Rattle.ask_pages.proofs.read_input.Given as goal

abbrev pub decreases-loop-left : goal.decreases-loop-left
decreases-loop-left l = length l.left
