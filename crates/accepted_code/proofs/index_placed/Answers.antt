use mathlib.Core.Path.{◌≡◌, refl}
use Prim.Native.Nat.{◌+◌}
use native.Mathlib.Omega.{arith}
use Rattle.laws.specs.Runs.{every}
use Rattle.laws.specs.Joined.{total}
use Rattle.laws.proofs.Tests.{every_more}
use Rattle.laws.proofs.Joins.{total_more}
use Rattle.sheet.specs.Promises.{offset_told, rows_told, rows_told_before}
use Rattle.accepted.specs.Check.{entry_placed, index_placed}
use Rattle.accepted_code.proofs.index_placed.Goals as goal

pub loop-i-init : goal.loop-i-init
unfolding rows_told_before total every
loop-i-init c = record { counted = refl; few = omega arith; so_far = refl }

pub loop-i-preserved : goal.loop-i-preserved
unfolding rows_told_before offset_told rows_told
loop-i-preserved c =
    let l = c.loop-i in
    let k = l.i in
    let z : 0 + k ≡ k = omega arith in
    let bytes = c.args.sheet.now in
    record {
      counted = rw (total_more (rows_told bytes) k, l.invariant.counted, c.number_at-before.ensures.0);
      few = omega (arith, l.invariant.few, c.number_at-before.ensures.1);
      so_far = rw (every_more 0 k (entry_placed bytes c.args.years), z, l.invariant.so_far, l.invariant.counted, c.number_at.ensures.0);
    }

pub returns : goal.returns
unfolding index_placed
returns c =
    let l = c.loop-i in
    let e : l.i ≡ c.args.years = omega arith in
    rw (l.invariant.so_far, l.invariant.counted, e)
