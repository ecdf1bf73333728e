-- The year's stretches are worked out into entries of its own, and a row is written for each.
use native.Mathlib.Omega.{arith}
use Rattle.rest.specs.Wings.{table_of}
use Rattle.rest_table.specs.Wing.{number_of}
use Rattle.stretches.specs.Stretches.{stretch_rows}
use Rattle.sheet.specs.Sheet.{rows_in, year_rows}
use Rattle.sheet_years.proofs.Listed.{listed}
use Rattle.sheet_years.proofs.write_year.Goals as goal

pub write_list-requires : goal.write_list-requires
unfolding rows_in
write_list-requires c =
    let n = c.year_rows-entries.ensures in
    let list = listed (stretch_rows (table_of (number_of c.args.wing)) c.args.span.year) _ _ _ n.0 n.1.1 in
    rw list (omega (arith, n.0, n.1.0), c.requires)

pub returns : goal.returns
unfolding rows_in year_rows
returns c =
    let n = c.year_rows-entries.ensures in
    let list = listed (stretch_rows (table_of (number_of c.args.wing)) c.args.span.year) _ _ _ n.0 n.1.1 in
    (rw n.0, (omega (arith, n.1.0), rw list at c.write_list.ensures))
