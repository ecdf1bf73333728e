use Rattle.std.proofs.Common.{refl, sym, arith}
use Rattle.civil_years.proofs.GregorianSteps.{gregorian_rule, gregorian_eve}
use Rattle.civil_years.proofs.gregorian.GregorianCalendar.year.Goals as goal

pub returns : goal.returns
returns c =
    let s = c.args.number in
    rw c.pick.ensures.0
    (record { number = refl; rule = gregorian_rule s; eve = λ l. sym (gregorian_eve s l); small = omega arith })
