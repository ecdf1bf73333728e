use Rattle.std.proofs.Common.{arith}
use mathlib.Core.Path.{◌≡◌, ap}
use Prim.Native.Nat.{suc}
use lib.ListN.{length}
use Rattle.year_dates.specs.Left.{left}
use Rattle.year_dates.proofs.Walked.{none_left, one_less}
use Rattle.year_dates.proofs.steps.DatesIterator.next.Goals as goal

pub returns-then-self-date-clause-steps : goal.returns-then-self-date-clause-steps
unfolding left
returns-then-self-date-clause-steps c =
    let e = none_left _ _ c.args.self.now.is_walk c.if-self-date.true in (e, e)

pub returns-clause-steps : goal.returns-clause-steps
unfolding left
returns-clause-steps c =
    let m = c.moved_on.ensures in
    rw m.0 (one_less _ _ c.args.self.now.is_walk _ c.if-self-date.false m.1)

pub returns-clause-goes : goal.returns-clause-goes
unfolding left
returns-clause-goes c =
    let m = c.moved_on.ensures in
    let e = one_less _ _ c.args.self.now.is_walk _ c.if-self-date.false m.1 in
    let l : length (left c.args.self.now) ≡ suc (length (left c.moved_on.result)) = rw m.0 (ap length e) in
    record { on = λ f. (tt, tt, omega (arith, l)); keeps = tt; rests = λ f. tt }
