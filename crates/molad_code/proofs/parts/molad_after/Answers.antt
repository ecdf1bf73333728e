use native.Mathlib.Omega.{arith}
use Rattle.molad.proofs.Closed.{molad_day_lem, molad_time_lem}
use Rattle.molad_code.proofs.parts.molad_after.Goals as goal

pub returns : goal.returns
returns c = let m = c.args.months in (rw (molad_day_lem m), (rw (molad_time_lem m), (omega arith, omega arith)))
