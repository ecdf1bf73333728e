use mathlib.Core.Path.{refl}
use Rattle.year_dates.proofs.Walked.{small, same_month, goes_on}
use Rattle.year_dates.proofs.walk.Dates.moved_on.Goals as goal

pub invariant_of-result : goal.invariant_of-result
invariant_of-result c =
    let d = c.args.self in
    record { is_walk = goes_on _ _ d.is_walk _ c.requires (same_month d.length d.days d.date d.counted c.if-date-days.true); counted = d.counted }

pub returns-then-date-days : goal.returns-then-date-days
returns-then-date-days c = let d = c.args.self in (refl, same_month d.length d.days d.date d.counted c.if-date-days.true)

pub next_date-date-requires : goal.next_date-date-requires
next_date-date-requires c = small _ _ c.args.self.is_walk

pub invariant_of-result-2 : goal.invariant_of-result-2
invariant_of-result-2 c = record { is_walk = goes_on _ _ c.args.self.is_walk _ c.requires c.next_date-date.ensures; counted = c.days_in.ensures }
