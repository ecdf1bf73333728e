use mathlib.Core.Path.{◌∙◌}
use native.Mathlib.Omega.{arith}
use borrow.Author.Tests.{lt-ltb}
use lib.ListN.{length}
use Prim.Native.Nat.{◌+◌}
use Rattle.loaded.specs.Walk.{row_place}
use Rattle.loaded.proofs.Walks.{no_room, not_counted, counted}
use Rattle.loaded_code.proofs.walk.row_place.Goals as goal

pub returns-then-sheet-lt16 : goal.returns-then-sheet-lt16
returns-then-sheet-lt16 c = no_room c.args.sheet.now c.args.row (omega arith)

pub returns-then-number_at-row : goal.returns-then-number_at-row
returns-then-number_at-row c = not_counted c.args.sheet.now c.args.row (omega (arith, c.if-number_at-row.true, c.number_at.ensures.0))

pub returns-then-at-sheet : goal.returns-then-at-sheet
returns-then-at-sheet c =
    let a = c.args in
    let at = c.number_at-2.ensures.0 in
    let there = counted a.sheet.now a.row (omega (arith, c.number_at.ensures.0)) ∙ lt-ltb (row_place a.sheet.now a.row + 5) (length a.sheet.now) (omega (arith, at)) in
    (there, rw at, omega arith)

pub returns-else-at-sheet : goal.returns-else-at-sheet
returns-else-at-sheet c = no_room c.args.sheet.now c.args.row (omega (arith, c.number_at-2.ensures.0))
