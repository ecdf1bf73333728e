use mathlib.Core.Path.{◌≡◌}
use Prim.Native.Nat.{◌*◌, ◌/◌, ◌≤◌}
use lib.ListN.{length, drop}
use lib.Seq.{sets}
use Rattle.laws.specs.Joined.{joined}
use Rattle.rest_table.specs.Wing.{number_of}
use Rattle.sheet.specs.Sheet.{row_of}
use Rattle.sheet_years.proofs.write_list.Given as given

abbrev pub invariant-loop-k : given.invariant-loop-k
invariant-loop-k l =
    let k = l.k-iterator.count in
    record {
      few : k ≤ length l.list / 2;
      size : l.k-iterator.iter.size ≡ 2;
      left : l.k-iterator.iter.rest.now ≡ drop (2 * k) l.list;
      as_long : length l.out ≡ length l.initial.out;
      stored : l.out ≡ sets l.initial.out l.at (joined (row_of (number_of l.wing) l.list) k);
    }
