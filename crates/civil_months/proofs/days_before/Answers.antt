use Rattle.std.proofs.Common.{arith}
use Rattle.civil.proofs.MonthStarts.{before_most}
use Rattle.civil_months.proofs.MonthOf.{early_start_lem, late_start_lem}
use Rattle.civil_months.proofs.days_before.Goals as goal

pub returns-then-month-lt3 : goal.returns-then-month-lt3
returns-then-month-lt3 c =
    let a = c.args in
    omega (arith, early_start_lem a.leap a.month c.requires.0 c.if-month-lt3.true, before_most a.leap a.month c.requires.1)

pub returns-else-month-lt3 : goal.returns-else-month-lt3
returns-else-month-lt3 c =
    let a = c.args in
    rw (c.from.ensures, late_start_lem a.leap a.month c.if-month-lt3.false c.requires.1)
    (omega (arith, before_most a.leap a.month c.requires.1))
