use Rattle.std.proofs.Common.{arith}
use Rattle.civil.proofs.MonthStarts.{at_most}
use Rattle.civil_months.proofs.MonthOf.{early_month_lem, late_month_lem}
use Rattle.civil_months.proofs.month_of.Goals as goal

pub overflow_mul-fifths : goal.overflow_mul-fifths
overflow_mul-fifths c = omega (arith, at_most c.args.leap)

pub overflow_add-fifths : goal.overflow_add-fifths
overflow_add-fifths c = omega (arith, at_most c.args.leap)

pub returns-then-day-march : goal.returns-then-day-march
returns-then-day-march c = early_month_lem c.args.leap c.args.day (omega arith)

pub returns-else-day-march : goal.returns-else-day-march
returns-else-day-march c =
    rw c.days_before-march.ensures.0 (late_month_lem c.args.leap c.args.day (omega arith) c.requires)
