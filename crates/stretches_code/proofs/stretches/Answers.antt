-- The year's stretches are worked out into entries of its own, and copied where there is room.
use Rattle.std.proofs.Common.{arith, ℕ, ◌≤◌, List}
use mathlib.Core.Path.{◌≡◌, refl}
use mathlib.Core.Bool.{false}
use borrow.Author.Tests.{lt-ltb, le-ltb}
use lib.ListN.{length, take}
use lib.Seq.{take-append_seam}
use Rattle.laws.specs.Buffer.{overwrite}
use Rattle.molad.specs.Years.{out_of_years}
use Rattle.lists.specs.Lists.{list_answer, list_buffer}
use Rattle.rest.specs.Wings.{out_of_wings, table_of}
use Rattle.rest.specs.Steps.{list_refusal}
use Rattle.rest_table.specs.Wing.{number_of}
use Rattle.rest_table.specs.declared.wings.Wing.{Wing}
use Rattle.newyear_code.specs.declared.span.Span.{Span}
use Rattle.rest.proofs.Refused.{list_refused, list_passed}
use Rattle.stretches.specs.Promises.{stretches_room}
use Rattle.stretches.specs.Stretches.{stretch_rows}
use Rattle.stretches_code.proofs.stretches.Goals as goal

pub returns-in-Err : goal.returns-in-Err
unfolding list_answer list_buffer
returns-in-Err c = list_refused _ _ _ _ _ _ _ c.in-Err.ensures.1 (omega (arith, c.in-Err.ensures.0)) cc

-- Wing and year are good, and what is worked out is the year's list.
listed :
    (wing h n : ℕ) (asked : Wing × Span) (before after : List ℕ) →
    let list = stretch_rows (table_of wing) h in
    let found = stretch_rows (table_of (number_of asked.0)) asked.1.year in
    (list_refusal wing h ≡ 0) × ((number_of asked.0 ≡ wing) × (asked.1.year ≡ h)) →
    (n ≡ length found) × ((n ≤ stretches_room) × (after ≡ overwrite before found)) →
    (out_of_wings wing ≡ false) × (out_of_years h ≡ false) × (n ≡ length list) × (take n after ≡ list)
unfolding overwrite
listed wing h n asked before after told e =
    let p = list_passed wing h _ refl told.0 in
    let f = rw (told.1.0, told.1.1) at e in
    (p.0, p.1, f.0, rw (f.1.1, f.0) (take-append_seam (stretch_rows (table_of wing) h) _))

pub returns-then-out-wanted : goal.returns-then-out-wanted
unfolding list_answer list_buffer
returns-then-out-wanted c =
    let w = listed _ _ _ c.in-Ok.asked _ _ c.in-Ok.ensures c.year_rows-wanted.ensures in
    let t = lt-ltb _ _ c.if-out-wanted.true in
    (rw (w.0, w.1, ← w.2, t), rw (w.0, w.1, ← w.2, t))

pub returns : goal.returns
unfolding list_answer list_buffer overwrite
returns c =
    let w = listed _ _ _ c.in-Ok.asked _ _ c.in-Ok.ensures c.year_rows-wanted.ensures in
    let f = le-ltb _ _ c.if-out-wanted.false in
    (rw (w.0, w.1, ← w.2, f), rw (w.0, w.1, ← w.2, f, c.copy_from_slice.ensures.after, w.3))
