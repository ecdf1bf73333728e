use Rattle.std.proofs.Common.{refl}
use Rattle.civil.specs.Calendar.{julian, julian_leap}
use Rattle.civil_years.proofs.Quarters.{last_of_four}
use Rattle.civil_years.proofs.MarchYears.{in_same_year, in_next_year}
use Rattle.civil_years.proofs.JulianSteps.{years, since_march, julian_in_year}
use Rattle.civil_years.proofs.julian.JulianCalendar.year_of.Goals as goal

pub returns-then-since_march-ge-TO_JANUARY : goal.returns-then-since_march-ge-TO_JANUARY
unfolding julian_leap
returns-then-since_march-ge-TO_JANUARY c =
    let j = c.args.day in
    let march = julian_in_year j c.requires.0 c.requires.1 in
    in_next_year julian j (years j) (since_march j) march _ c.if-since_march-ge-TO_JANUARY.true (last_of_four (years j))

pub returns-else-since_march-ge-TO_JANUARY : goal.returns-else-since_march-ge-TO_JANUARY
unfolding julian_leap
returns-else-since_march-ge-TO_JANUARY c =
    let j = c.args.day in
    let march = julian_in_year j c.requires.0 c.requires.1 in
    rw c.days_before.ensures.0
    (in_same_year julian j (years j) (since_march j) march _ c.if-since_march-ge-TO_JANUARY.false refl)
