use mathlib.Core.Path.{◌≡◌}
use Prim.Native.Nat.{◌*◌, ◌/◌, ◌≤◌}
use lib.ListN.{length, drop}
use Rattle.content.specs.Content.{rows_agree}
use Rattle.content_code.proofs.rows_agree.Given as given

abbrev pub invariant-loop-k : given.invariant-loop-k
invariant-loop-k l =
    let k = l.k-iterator.count in
    record {
      few : k ≤ length l.list / 2;
      size : l.k-iterator.iter.size ≡ 2;
      left : l.k-iterator.iter.rest.now ≡ drop (2 * k) l.list;
      so_far : l.agree ≡ rows_agree l.wing l.sheet l.at l.list k;
    }
