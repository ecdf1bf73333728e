use mathlib.Core.Path.{refl}
use native.Mathlib.Omega.{arith}
use Rattle.laws.specs.Joined.{total}
use Rattle.rest_table.specs.Wing.{number_of}
use Rattle.sheet.specs.Sheet.{rows_before}
use Rattle.sheet.proofs.Years.{rows_more}
use Rattle.sheet_years.proofs.count_rows.Goals as goal

pub loop-k-init : goal.loop-k-init
unfolding rows_before total
loop-k-init c = record { counted = refl; few = omega arith }

pub loop-k-preserved : goal.loop-k-preserved
loop-k-preserved c =
    let l = c.loop-k in
    let year = rw c.year_span.ensures at c.rows_in-rows.ensures.0 in
    record {
      counted = omega (arith, l.invariant.counted, year, rows_more (number_of c.args.wing) c.args.years.first l.k);
      few = omega arith;
    }
