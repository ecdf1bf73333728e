use native.Mathlib.Omega.{arith}
use Rattle.rhodes.proofs.Molad.{august_day}
use Rattle.rhodes_code.proofs.august.day_of_august.Goals as goal

pub returns : goal.returns
returns c = let a = c.args in (omega (arith, august_day a.year a.day (omega arith)), omega arith)
