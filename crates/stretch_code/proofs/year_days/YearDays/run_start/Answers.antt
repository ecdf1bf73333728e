use Rattle.std.proofs.Common.{arith, ◌≡◌, sym, ◌∙◌, ◌+◌, ◌-◌}
use Rattle.laws.specs.Search.{run_start}
use Rattle.hebrew.proofs.Walked.{date_small}
use Rattle.rest.specs.Steps.{rest_at}
use Rattle.stretch.proofs.Walk.{back_here, back_on}
use Rattle.stretch_code.proofs.year_days.YearDays.run_start.Goals as goal

pub rests-requires : goal.rests-requires
rests-requires c =
    let a = c.args.self in rw c.date_after.ensures (date_small a.length (c.loop-day.day - 1) a.measured (omega arith))

pub returns-then-not-rests : goal.returns-then-not-rests
unfolding rest_at
returns-then-not-rests c =
    let k = c.loop-day.day in
    let e = sym (rw c.date_after.ensures at c.rests.ensures) ∙ c.if-not-rests.true in
    let up : k - 1 + 1 ≡ k = omega arith in
    (rw up (sym (c.loop-day.invariant ∙ back_here _ k (omega arith) e)), omega arith)

pub loop-day-preserved : goal.loop-day-preserved
unfolding rest_at
loop-day-preserved c =
    let e = sym (rw c.date_after.ensures at c.rests.ensures) ∙ c.if-not-rests.false in
    c.loop-day.invariant ∙ back_on _ c.loop-day.day (omega arith) e

pub returns : goal.returns
unfolding run_start
returns c = let z : c.loop-day.day ≡ 0 = omega arith in (sym (rw z at c.loop-day.invariant), omega arith)
