use Rattle.std.proofs.Common.{refl, sym, arith}
use Rattle.civil.specs.Calendar.{julian_leap}
use Rattle.civil_years.proofs.JulianSteps.{julian_eve}
use Rattle.civil_years.proofs.julian.JulianCalendar.year.Goals as goal

pub returns : goal.returns
unfolding julian_leap
returns c = record { number = refl; rule = refl; eve = λ l. sym (julian_eve c.args.number l); small = omega arith }
