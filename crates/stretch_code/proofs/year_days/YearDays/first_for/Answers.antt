use Rattle.std.proofs.Common.{arith, sym}
use Rattle.stretch.proofs.Walk.{back_here}
use Rattle.stretch_code.proofs.year_days.YearDays.first_for.Goals as goal

pub returns-then-x-n : goal.returns-then-x-n
returns-then-x-n c = (sym (back_here _ c.args.n (omega arith) (c.requires.1 (omega arith))), omega arith)
