-- Row by row.
use mathlib.Core.Path.{◌≡◌, refl, sym, ◌∙◌}
use Prim.Native.Nat.{◌+◌, ◌*◌}
use native.Mathlib.Omega.{arith}
use lib.Seq.{sets, length-sets}
use Rattle.laws.specs.Joined.{joined}
use Rattle.laws.proofs.Joins.{joined_more}
use Rattle.laws.proofs.Stores.{sets_more}
use Rattle.rest_table.specs.Wing.{number_of}
use Rattle.sheet.specs.Sheet.{row_of}
use Rattle.sheet.proofs.Sizes.{rows_long}
use Rattle.sheet_years.proofs.Pairs.{one_left, first_of_pair, second_of_pair, left_behind}
use Rattle.sheet_years.proofs.write_list.Goals as goal

pub loop-k-init : goal.loop-k-init
unfolding joined
loop-k-init c =
    let e = c.chunks_exact.ensures in
    let f = c.enumerate-k-items.ensures in
    rw (c.into_iter-k-iterator.ensures.into_iter_gives, f.count, f.source) record { few = omega arith; size = e.size; left = e.rest; as_long = refl; stored = refl }

pub loop-k-preserved : goal.loop-k-preserved
unfolding row_of
loop-k-preserved c =
    let a = c.args in
    let wing = number_of a.wing in
    let list = a.list.now in
    let l = c.loop-k in
    let k = l.k-iterator.count in
    let i = l.invariant in
    let s = c.in-Some.ensures.steps in
    let pair = c.in-Some.stretch.now in
    let rest = c.next.new.self.iter.rest.now in
    let e = sym i.left ∙ s.0.1.0 in
    let two = s.0.1.1 ∙ i.size in
    let row = row_of wing list in
    let stored : c.put_row.new.out ≡ sets a.out.now a.at (joined row (k + 1)) =
    c.put_row.ensures
    ∙ rw (s.1, c.number.ensures, first_of_pair list k pair rest e two, second_of_pair list k pair rest e two, i.stored, joined_more row k)
    (sets_more a.out.now (joined row k) (row k) a.at (a.at + 6 * k) (omega (arith, rows_long wing list k))) in
    rw s.2
    record {
      few = omega (arith, one_left list k pair rest e two);
      size = s.0.0 ∙ i.size;
      left = left_behind list k pair rest e two;
      as_long = rw stored (length-sets a.out.now a.at (joined row (k + 1)));
      stored = stored;
    }
