use Rattle.std.proofs.Common.{arith}
use Rattle.std.proofs.lemmas.List.Elements.{All-get_or}
use mathlib.Core.Path.{refl}
use borrow.Author.Tests.{lt-ltb, le-ltb}
use lib.Seq.{take_all}
use Rattle.laws.specs.Buffer.{overwrite}
use Rattle.laws.proofs.Stores.{over_take}
use Rattle.lists.specs.Lists.{list_answer, list_buffer, days_of}
use Rattle.lists.proofs.Lists.{days_at_lem, days_length}
use Rattle.lists_code.proofs.list_days.Goals as goal

pub returns-then-out-table : goal.returns-then-out-table
unfolding list_answer list_buffer
returns-then-out-table g c day each h y =
    let t = lt-ltb _ _ c.if-out-table.true in
    rw (y, days_length day c.args.table.now, t) (refl, refl)

pub loop-i-init : goal.loop-i-init
unfolding overwrite
loop-i-init g c day each = refl

pub day-requires : goal.day-requires
day-requires g c = All-get_or (goal.F-pre g c.args.day) c.args.table.now c.loop-i.i 0 (omega arith) c.requires

pub loop-i-preserved : goal.loop-i-preserved
loop-i-preserved g c day each =
    let t = c.args.table.now in
    let long = days_length day t in
    let v = each c.loop-i.i c.day.result (omega arith) c.day.ensures in
    rw (c.loop-i.invariant day each, v, ← days_at_lem day t c.loop-i.i (omega arith))
    (over_take _ (days_of day t) c.loop-i.i (omega arith) (omega arith))

pub returns : goal.returns
unfolding list_answer list_buffer
returns g c day each h y =
    let t = c.args.table.now in
    let long = days_length day t in
    let f = le-ltb _ _ c.if-out-table.false in
    rw (y, long, f) (refl, rw (take_all c.loop-i.i (days_of day t) (omega arith)) at (c.loop-i.invariant day each))
