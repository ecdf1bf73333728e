use Rattle.hebrew.specs.Steps.{year_date}
use Rattle.hebrew.proofs.Placed.{month_holds}
use Rattle.hebrew_months.proofs.date.date_after.Goals as goal

pub overflow_sub-result : goal.overflow_sub-result
overflow_sub-result c =
    let i = month_holds c.args.length c.args.after c.requires.0 c.requires.1 in
    rw (c.days_before.ensures.0, c.month_of-month.ensures.0) i.from

pub returns : goal.returns
unfolding year_date
returns c = rw (c.days_before.ensures.0, c.month_of-month.ensures.0)
