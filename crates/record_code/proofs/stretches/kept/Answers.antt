use Rattle.std.proofs.Common.{rules, ◌≡◌, w64, to_z, of_z}
use borrow.Author.Tests.{lt-ltb, le-ltb}
use Rattle.record.specs.Steps.{lasts}
use Rattle.record_code.proofs.stretches.kept.Goals as goal
use Rattle.record_code.proofs.stretches.kept.Goals.{else-told-via-then-told+else-day-r, else-told-via-else-told}

pub returns-then-day-r : goal.returns-then-day-r
unfolding lasts
returns-then-day-r c =
    let t : to_z w64 (of_z w64 c.days_left.result) ≡ c.days_left.result = search rules in
    (rw (c.if-told.true, lt-ltb _ _ c.if-day-r.true), rw (t, c.days_left.ensures))

pub returns : goal.returns
unfolding lasts
returns c =
    elim c.else-told.branch [
      | else-told-via-then-told+else-day-r w ↦ rw (w.if-told.true, le-ltb _ _ w.if-day-r.false)
      | else-told-via-else-told w ↦ rw w.if-told.false
    ]
