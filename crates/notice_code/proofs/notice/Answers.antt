-- A refused molad is a refused notice; past both refusals the notice is that of the molad's day, hour and part: a day
-- back with 24 hours more, in the evening, and six hours less.
use mir.Val.{bool_byte}
use mathlib.Core.Path.{◌≡◌}
use mathlib.Core.Bool.{Bool, true, false, cond}
use Prim.Native.Nat.{ℕ, ◌+◌, ◌-◌, ◌*◌, ◌≤◌}
use native.Mathlib.Omega.{arith}
use lib.Dec.{leb}
use Rattle.molad_code.proofs.Refused.{month_refused}
use Rattle.notice.specs.Answers.{no_notice, notice_answer}
use Rattle.notice.proofs.Told.{given}
use Rattle.notice_code.proofs.notice.Goals as goal

pub returns-in-Err : goal.returns-in-Err
unfolding notice_answer
returns-in-Err c =
    let e = c.in-Err.ensures in
    rw (← month_refused no_notice _ _ _ c.in-Err.why e.0 e.1, c.number.ensures) cc

one_back : (b : Bool) (back : ℕ) → back ≡ bool_byte b → back ≤ 1
one_back true back e = omega arith
one_back false back e = omega arith

day_back : (b : Bool) (j back : ℕ) → back ≡ bool_byte b → j - back ≡ cond b (j - 1) j
day_back true j back e = omega arith
day_back false j back e = omega arith

hours_on : (b : Bool) (hour back : ℕ) → back ≡ bool_byte b → hour + 24 * back - 6 ≡ cond b (hour + 18) (hour - 6)
hours_on true hour back e = omega arith
hours_on false hour back e = omega arith

pub overflow_sub-day : goal.overflow_sub-day
overflow_sub-day c =
    let e = c.in-Ok.ensures in
    let g = given c.args.year c.args.month e.0 e.1.0 in
    omega (arith, e.1.1.0, g.later, one_back _ _ c.from-back.ensures)

pub weekday_of-requires : goal.weekday_of-requires
weekday_of-requires c =
    let e = c.in-Ok.ensures in
    let g = given c.args.year c.args.month e.0 e.1.0 in
    omega (arith, e.1.1.0, g.near)

pub returns-in-Ok : goal.returns-in-Ok
returns-in-Ok c =
    let e = c.in-Ok.ensures in
    let g = given c.args.year c.args.month e.0 e.1.0 in
    let b = leb c.hour-hour.result 5 in
    let back : c.from-back.result ≡ bool_byte b = c.from-back.ensures in
    rw (
      ← g.notice,
      c.weekday_of.ensures,
      day_back b _ _ back,
      hours_on b _ _ back,
      c.hour-hour.ensures,
      c.part-part.ensures,
      e.1.1.0,
      e.1.1.1,
    )
