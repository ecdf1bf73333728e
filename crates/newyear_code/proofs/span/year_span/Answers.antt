use native.Mathlib.Omega.{arith}
use Rattle.newyear.proofs.Lengths.{rises}
use Rattle.newyear_code.proofs.Spanned.{spans}
use Rattle.newyear_code.proofs.span.year_span.Goals as goal

pub overflow_sub-result : goal.overflow_sub-result
overflow_sub-result c = omega (arith, rises c.args.year (omega arith) (omega arith))

pub invariant_of-result : goal.invariant_of-result
invariant_of-result c =
    let b = c.begins-first.ensures.day in
    record { is_span = spans _ _ _ (omega arith) (omega arith) b (rw (b, c.begins-next.ensures.day)) }
