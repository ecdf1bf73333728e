use mathlib.Core.Path.{refl, ◌∙◌}
use borrow.Author.Tests.{lt-ltb, le-ltb}
use Rattle.rest_table.specs.Wing.{number_of}
use Rattle.sheet.specs.Sheet.{sheet_size}
use Rattle.sheet.proofs.Years.{all_written}
use Rattle.sheet_code.proofs.write_sheet.Goals as goal

pub returns-then-out-size : goal.returns-then-out-size
unfolding sheet_size
returns-then-out-size c =
    let w = c.count_rows-rows.ensures.0 in
    rw (w, lt-ltb _ _ (rw w at c.if-out-size.true)) (refl, refl)

pub returns : goal.returns
unfolding sheet_size
returns c =
    let a = c.args in
    let w = c.count_rows-rows.ensures.0 in
    let room = rw w at c.if-out-size.false in
    rw (w, le-ltb _ _ room)
    (refl, rw (c.put_header.ensures, w) at c.write_years.ensures ∙ all_written (number_of a.wing) a.years.first a.years.count a.out.now room)
