use mathlib.Core.Path.{◌≡◌}
use Prim.Native.Nat.{◌≤◌, ◌+◌, ◌*◌}
use lib.ListN.{length as count}
use Rattle.layout.specs.Layout.{rows_offset}
use Rattle.rest_table.specs.Wing.{number_of}
use Rattle.sheet.specs.Sheet.{rows_before}
use Rattle.sheet.proofs.Years.{written}
use Rattle.sheet_years.proofs.write_years.Given as given

abbrev pub invariant-loop-i : given.invariant-loop-i
invariant-loop-i l =
    let wing = number_of l.wing in
    let before = rows_before wing l.years.first l.i in
    record {
      place : l.at ≡ rows_offset l.years.count + 6 * before;
      few : before ≤ 60 * l.i;
      as_long : count l.out ≡ count l.initial.out;
      stored : l.out ≡ written wing l.years.first l.years.count l.initial.out l.i;
    }
