use borrow.Author.Rules.{rules}
use mathlib.Core.Path.{◌≡◌}
use mathlib.Core.Bool.{true, false}
use Rattle.molad.specs.Years.{out_of_new_years}
use Rattle.rhodes.specs.Rhodes.{rhodes_delay, rhodes_new_year, rhodes_molad_day, rhodes_molad_time}
use Rattle.rhodes.specs.Answers.{rhodes_answer}
use Rattle.rhodes_code.specs.Steps.{route_of}
use Rattle.rhodes_code.proofs.new_year_rhodes.Goals as goal

pub returns-then-not-contains : goal.returns-then-not-contains
unfolding rhodes_answer
returns-then-not-contains c =
    let out : out_of_new_years c.args.year ≡ true = search rules in rw out cc

pub returns : goal.returns
unfolding rhodes_answer route_of rhodes_new_year rhodes_molad_day rhodes_molad_time rhodes_delay
returns c =
    let covered : out_of_new_years c.args.year ≡ false = search rules in
    rw (covered, c.weekday_of.ensures, c.day_of_august-day.ensures.0, c.day_of_august.ensures.0, c.route_of-route.ensures.0)
