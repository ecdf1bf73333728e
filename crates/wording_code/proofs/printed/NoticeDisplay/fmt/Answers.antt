use Rattle.show.proofs.Printed.{in_two_figures}
use Rattle.wording_code.proofs.printed.NoticeDisplay.fmt.Goals as goal

pub returns-clause-writes : goal.returns-clause-writes
returns-clause-writes g c p ok =
    let told = c.args.self.now.told in
    rw (c.laid_out.ensures, c.laid_out-2.ensures, in_two_figures told.hour, in_two_figures told.minute, c.weekday_name.ensures, c.parts_name.ensures) at (c.write.ensures.writes p ok)
