-- Year by year: the index and the rows grow side by side.
use mathlib.Core.Path.{◌≡◌, refl, ◌∙◌}
use Prim.Native.Nat.{◌+◌}
use native.Mathlib.Omega.{arith}
use Rattle.laws.specs.Joined.{joined, total}
use Rattle.rest_table.specs.Wing.{number_of}
use Rattle.sheet.specs.Sheet.{rows_before, entry_of}
use Rattle.sheet.proofs.Years.{rows_more, rows_grow, written, written_long, year_more}
use Rattle.sheet_years.proofs.write_years.Goals as goal

pub loop-i-init : goal.loop-i-init
unfolding joined rows_before total
loop-i-init c = record { place = omega arith; few = omega arith; as_long = refl; stored = refl }

pub write_year-rows-requires : goal.write_year-rows-requires
write_year-rows-requires c =
    let wing = number_of c.args.wing in
    let y = c.args.years in
    let i = c.loop-i.i in
    let more = rows_more wing y.first i in
    rw c.year_span-span.ensures (omega (arith, c.loop-i.invariant.place, more, rows_grow wing y.first (i + 1) y.count (omega arith)))

pub loop-i-preserved : goal.loop-i-preserved
unfolding entry_of
loop-i-preserved c =
    let wing = number_of c.args.wing in
    let y = c.args.years in
    let i = c.loop-i.i in
    let inv = c.loop-i.invariant in
    let n = c.write_year-rows.ensures in
    let s = c.year_span-span in
    let rows = rw s.ensures at n.0 in
    let more = rows_more wing y.first i in
    let stored : c.put_entry.new.out ≡ written wing y.first y.count c.args.out.now (i + 1) =
    c.put_entry.ensures
    ∙ rw (n.1.1, inv.stored, inv.place, s.result.is_span.days, s.ensures, rows) (year_more wing y.first y.count i c.args.out.now (omega arith))
    in
    record {
      place = omega (arith, inv.place, rows, more);
      few = omega (arith, rows, more, n.1.0);
      as_long = rw stored (written_long wing y.first y.count c.args.out.now (i + 1));
      stored = stored;
    }
