use mathlib.Core.Path.{sym}
use Prim.Native.Nat.{◌≤◌}
use native.Mathlib.Omega.{arith}
use lib.ListN.{length}
use Rattle.accepted.proofs.Refusal.{accepted}
use Rattle.accepted_code.proofs.accepted_years.Goals as goal

pub number_at-requires : goal.number_at-requires
number_at-requires c =
    let t = accepted c.args.wing c.args.sheet.now (sym c.in-None.ensures) in
    let long : 16 ≤ length c.args.sheet.now = t.0 in (omega arith, omega arith)

pub number_at-requires-in-None : goal.number_at-requires-in-None
number_at-requires-in-None c =
    let t = accepted c.args.wing c.args.sheet.now (sym c.in-None.ensures) in
    let long : 16 ≤ length c.args.sheet.now = t.0 in (omega arith, omega arith)

pub invariant_of-result : goal.invariant_of-result
invariant_of-result c =
    let y = (accepted c.args.wing c.args.sheet.now (sym c.in-None.ensures)).1.0 in
    let f = c.number_at.ensures.0 in
    let n = c.number_at-in-None.ensures.0 in
    record { covered = record { from = omega (arith, y, f); few = omega (arith, y, n); to = omega (arith, y, f, n) } }
