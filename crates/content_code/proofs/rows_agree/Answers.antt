-- Row by row.
use mathlib.Core.Path.{refl, sym, ◌∙◌}
use native.Mathlib.Omega.{arith}
use Rattle.laws.specs.Runs.{every}
use Rattle.content.specs.Content.{rows_agree}
use Rattle.sheet_years.proofs.Pairs.{one_left, first_of_pair, second_of_pair, left_behind}
use Rattle.content_code.proofs.Compared.{row_more}
use Rattle.content_code.proofs.rows_agree.Goals as goal

pub loop-k-init : goal.loop-k-init
unfolding rows_agree every
loop-k-init c =
    let e = c.chunks_exact.ensures in
    let f = c.enumerate-k-items.ensures in
    rw (c.into_iter-k-iterator.ensures.into_iter_gives, f.count, f.source) record { few = omega arith; size = e.size; left = e.rest; so_far = refl }

pub loop-k-preserved : goal.loop-k-preserved
loop-k-preserved c =
    let a = c.args in
    let wing = a.wing in
    let list = a.list.now in
    let l = c.loop-k in
    let k = l.k-iterator.count in
    let i = l.invariant in
    let s = c.in-Some.ensures.steps in
    let pair = c.in-Some.stretch.now in
    let rest = c.next.new.self.iter.rest.now in
    let e = sym i.left ∙ s.0.1.0 in
    let two = s.0.1.1 ∙ i.size in
    rw s.2
    record {
      few = omega (arith, one_left list k pair rest e two);
      size = s.0.0 ∙ i.size;
      left = left_behind list k pair rest e two;
      so_far = rw (row_more wing a.sheet.now a.at list k, c.row_agrees-agree.ensures, s.1, i.so_far, first_of_pair list k pair rest e two, second_of_pair list k pair rest e two);
    }
