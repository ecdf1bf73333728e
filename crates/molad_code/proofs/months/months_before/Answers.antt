-- The quotient is the counted months; the remainder tells the leap years.
use mathlib.Core.Path.{◌≡◌}
use Prim.Native.Nat.{◌*◌, ◌-◌, ◌/◌, ◌%◌}
use native.Mathlib.Omega.{arith}
use Rattle.laws.proofs.Shifts.{nineteenths}
use Rattle.molad.proofs.Closed.{months_closed, leap_remainder}
use Rattle.molad_code.proofs.months.months_before.Goals as goal

pub returns : goal.returns
returns c =
    let h = c.args.year in
    let x = 235 * h - 234 in
    let l = leap_remainder h (omega arith) in
    let remainder : x - 19 * (x / 19) ≡ x % 19 = omega arith in
    rw (nineteenths x (omega arith), remainder) (rw (months_closed h (omega arith)), (l.0, (l.1, omega arith)))
