use native.Mathlib.Omega.{arith}
use Rattle.sheet.specs.Sheet.{rows_in}
use Rattle.sheet_years.proofs.rows_in.Goals as goal

pub returns : goal.returns
unfolding rows_in
returns c = let e = c.year_rows.ensures in (rw e.0, omega (arith, e.1.0))
