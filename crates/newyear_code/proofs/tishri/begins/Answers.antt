-- The molad is that of Tishri, the delay is asked of its weekday and time, and New Year comes so many days later.
use mathlib.Core.Path.{◌≡◌}
use mathlib.Core.Bool.{cond}
use mathlib.Core.Logic.{by_cases}
use Prim.Native.Nat.{◌+◌}
use native.Mathlib.Omega.{arith}
use native.Mathlib.Decide.{dec_lt}
use borrow.Author.Tests.{lt-ltb, le-ltb}
use lib.Dec.{ltb}
use Rattle.days.specs.Weekday.{weekday}
use Rattle.molad.specs.Molad.{molad_day, molad_time}
use Rattle.newyear.specs.NewYear.{delay_in, new_year}
use Rattle.newyear.proofs.Quick.{tishri_day, tishri_time}
use Rattle.newyear_code.proofs.tishri.begins.Goals as goal
use Rattle.newyear_code.proofs.tishri.begins.Goals.{After-pick}

-- The weekday goes on with the days, and round the week.
moved : (c : After-pick) → c.pick.result ≡ weekday (c.molad_after-molad.result.day + c.delay-late.result.delay) + 7
moved c =
    let x = c.weekday_of-weekday.result + c.delay-late.result.delay in
    let e : c.pick.result ≡ cond (ltb 7 x) x (x + 7) = c.pick.ensures.0 in
    by_cases (dec_lt 7 x) (λ p. rw (e, lt-ltb 7 x p) (omega arith)) (λ p. rw (e, le-ltb 7 x (omega arith)) (omega arith))

pub overflow_sub-result : goal.overflow_sub-result
overflow_sub-result c = omega (arith, moved c)

-- The molad is that of Tishri, and the delay is that of its weekday and time, and of the two years.
pub returns : goal.returns
unfolding new_year delay_in
returns c =
    let y = c.args.year in
    let m = c.molad_after-molad in
    let k = c.months_before-before.ensures in
    let day : m.result.day ≡ molad_day y 1 = rw (tishri_day y, ← k.0) m.ensures.0 in
    let time : m.result.time ≡ molad_time y 1 = rw (tishri_time y, ← k.0) m.ensures.1.0 in
    let late : c.delay-late.result ≡ delay_in y = rw (← day, ← time, ← c.weekday_of-weekday.ensures, ← k.1.0, ← k.1.1.0) c.delay-late.ensures.0 in
    let begun : m.result.day + c.delay-late.result.delay ≡ new_year y = rw (day, late) in
    record {
      day = begun;
      on = rw (moved c, begun) (omega arith);
      molad_day_lem = day;
      molad_time_lem = time;
      late = late;
      small = omega arith;
      in_day = omega arith;
    }
