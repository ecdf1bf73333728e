-- Straight line: each `pick` is the definition's `cond`.
use mir.Val.{bool_byte}
use mathlib.Core.Path.{◌≡◌, refl}
use mathlib.Core.Bool.{Bool, true, false, cond, or-false}
use Prim.Native.Nat.{◌+◌}
use lib.Dec.{eqb}
use Rattle.rhodes.specs.Rhodes.{weekday_line, monday_line, tuesday_line, late_by, cause_by}
use Rattle.rhodes.proofs.Late.{late_at_most_two}
use Rattle.rhodes_code.proofs.steps.late_by.Goals as goal

-- Noon's 1 and the weekday's 2.
both : (stepped : Bool) → bool_byte stepped + 2 ≡ cond stepped 3 2
both true = refl
both false = refl

-- Noon's 1 alone.
alone : (stepped : Bool) → bool_byte stepped ≡ cond stepped 1 0
alone true = refl
alone false = refl

pub returns : goal.returns
unfolding late_by cause_by weekday_line monday_line tuesday_line
returns c =
    let a = c.args in
    let closed = or-false (eqb a.weekday 6) in
    let delay : c.pick-3.result ≡ late_by a.place a.weekday a.part = rw (closed, c.pick-3.ensures.0, c.pick-2.ensures.0, c.pick.ensures.0) in
    let cause : c.pick-6.result ≡ cause_by a.past_noon a.place a.weekday a.part =
    rw (closed, c.pick-6.ensures.0, c.pick-5.ensures.0, c.pick-4.ensures.0, c.from-noon.ensures, both a.past_noon, alone a.past_noon) in
    ((delay, rw delay (late_at_most_two a.place a.weekday a.part)), cause)
