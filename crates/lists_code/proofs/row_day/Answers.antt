use Rattle.std.proofs.Common.{arith}
use Rattle.hebrew.specs.Dates.{day_number}
use Rattle.hebrew.proofs.Rows.{good_row}
use Rattle.lists_code.proofs.row_day.Goals as goal

pub days_before-before-requires : goal.days_before-before-requires
days_before-before-requires c = (c.args.span.is_span.measured, (good_row _ _ c.requires).code)

pub overflow_sub-result : goal.overflow_sub-result
overflow_sub-result c = (good_row _ _ c.requires).day.0

pub returns : goal.returns
unfolding day_number
returns c =
    let e = c.args.span.is_span in
    let d = (good_row _ _ c.requires).day in
    (rw (← e.begins, ← e.days, c.days_before-before.ensures.0), omega (arith, e.from), omega (arith, e.small, c.days_before-before.ensures.1))
