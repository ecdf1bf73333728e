use Rattle.std.proofs.Common.{sym, ◌+◌, ◌*◌}
use Rattle.civil.specs.Calendar.{gregorian}
use Rattle.civil.proofs.Centuries.{rule}
use Rattle.civil_years.proofs.MarchYears.{in_same_year, in_next_year}
use Rattle.civil_years.proofs.GregorianSteps.{century, years, since_march, in_its_century, next_rule, gregorian_in_year}
use Rattle.civil_years.proofs.gregorian.GregorianCalendar.year_of.Goals as goal

pub returns-then-since_march-ge-TO_JANUARY : goal.returns-then-since_march-ge-TO_JANUARY
returns-then-since_march-ge-TO_JANUARY c =
    let j = c.args.day in
    let march = gregorian_in_year j c.requires.0 c.requires.1 in
    let next = next_rule (century j) (years j) (in_its_century j) in
    rw c.pick.ensures.0
    (in_next_year gregorian j (100 * century j + years j) (since_march j) march _ c.if-since_march-ge-TO_JANUARY.true next)

pub returns-else-since_march-ge-TO_JANUARY : goal.returns-else-since_march-ge-TO_JANUARY
returns-else-since_march-ge-TO_JANUARY c =
    let j = c.args.day in
    let march = gregorian_in_year j c.requires.0 c.requires.1 in
    let this = sym (rule (century j) (years j) (in_its_century j)) in
    rw (c.days_before.ensures.0, c.pick-else-since_march-ge-TO_JANUARY.ensures.0)
    (in_same_year gregorian j (100 * century j + years j) (since_march j) march _ c.if-since_march-ge-TO_JANUARY.false this)
