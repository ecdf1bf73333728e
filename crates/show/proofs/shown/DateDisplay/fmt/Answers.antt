use Rattle.show.proofs.Printed.{in_two_figures}
use Rattle.show.proofs.shown.DateDisplay.fmt.Goals as goal

pub returns-clause-writes : goal.returns-clause-writes
returns-clause-writes g c p ok =
    let date = c.args.self.now.0 in
    rw (c.laid_out.ensures, c.laid_out-2.ensures, in_two_figures date.month, in_two_figures date.day) at (c.write.ensures.writes p ok)
