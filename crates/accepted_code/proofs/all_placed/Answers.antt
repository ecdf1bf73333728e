use mathlib.Core.Path.{sym, ◌∙◌}
use Prim.Native.Nat.{◌+◌, ◌*◌}
use lib.Dec.{eqb}
use lib.ListN.{length}
use Rattle.layout.specs.Reading.{number_at}
use Rattle.sheet.specs.Promises.{rows_told_before}
use Rattle.accepted.specs.Check.{index_placed, placed}
use Rattle.accepted_code.proofs.Asked.{fit, unfit}
use Rattle.accepted_code.proofs.all_placed.Goals as goal

pub returns-then-fits : goal.returns-then-fits
unfolding placed
returns-then-fits c =
    let bytes = c.args.sheet.now in
    let years = number_at bytes 0 2 in
    let told = rw (c.number_at.ensures.0, c.number_at-2.ensures.0, c.number_at-rows.ensures.0, c.requires.1.0) at c.if-fits.true in
    rw (c.requires.1.0, c.number_at-rows.ensures.0) at c.index_placed.ensures
    ∙ fit (eqb (number_at bytes 8 4) 16) (eqb (number_at bytes 12 4) (16 + 8 * years)) (eqb (length bytes) (16 + 8 * years + 6 * number_at bytes 4 4)) (index_placed bytes years) (eqb (number_at bytes 4 4) (rows_told_before bytes years)) told

pub returns-else-fits : goal.returns-else-fits
unfolding placed
returns-else-fits c =
    let bytes = c.args.sheet.now in
    let years = number_at bytes 0 2 in
    let told = rw (c.number_at.ensures.0, c.number_at-2.ensures.0, c.number_at-rows.ensures.0, c.requires.1.0) at c.if-fits.false in
    c.if-fits.false
    ∙ sym (unfit (eqb (number_at bytes 8 4) 16) (eqb (number_at bytes 12 4) (16 + 8 * years)) (eqb (length bytes) (16 + 8 * years + 6 * number_at bytes 4 4)) (index_placed bytes years) (eqb (number_at bytes 4 4) (rows_told_before bytes years)) told)
