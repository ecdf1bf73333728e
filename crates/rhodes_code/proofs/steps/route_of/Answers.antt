-- Each value is its definition's; only what the noon step takes off the time is written without a branch.
use Prim.Native.Nat.{◌+◌}
use native.Mathlib.Omega.{arith}
use Rattle.laws.proofs.Tests.{cond_le}
use Rattle.rhodes.specs.Rhodes.{place, since_leap, distance, molad_august, molad_part, past_noon, noon_august, noon_part, weekday_of_august, delay_of, rhodes_delay}
use Rattle.rhodes_code.specs.Steps.{route_of}
use Rattle.rhodes.proofs.Late.{noon_part_lem, noon_step}
use Rattle.rhodes_code.proofs.steps.route_of.Goals as goal

pub returns : goal.returns
unfolding route_of place since_leap distance molad_august molad_part past_noon noon_august noon_part weekday_of_august delay_of rhodes_delay
returns c =
    let h = c.args.year in
    let i = molad_august h in
    let e = c.late_by-late.ensures in (
      rw (e.0.0, e.1, c.pick.ensures.0, c.pick-august.ensures.0, (noon_part_lem _).1),
      (
        rw c.pick-august.ensures.0 (noon_step h),
        (
          rw c.pick-august.ensures.0 (cond_le (past_noon (molad_part h)) (i + 1) i 71 (omega arith) (omega arith)),
          e.0.1,
        ),
      ),
    )
