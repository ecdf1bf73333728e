use borrow.Author.Rules.{rules}
use mathlib.Core.Path.{◌≡◌}
use mathlib.Core.Bool.{true, false}
use Rattle.molad.specs.Years.{out_of_new_years}
use Rattle.newyear.specs.Answers.{new_year_answer}
use Rattle.newyear_code.proofs.new_year.Goals as goal

pub returns-then-not-contains : goal.returns-then-not-contains
unfolding new_year_answer
returns-then-not-contains c =
    let out : out_of_new_years c.args.year ≡ true = search rules in rw out cc

pub returns : goal.returns
unfolding new_year_answer
returns c =
    let covered : out_of_new_years c.args.year ≡ false = search rules in
    let e = c.begins-tishri.ensures in
    rw (covered, c.hour.ensures, c.part.ensures, e.day, e.on, e.molad_day_lem, e.molad_time_lem, e.late)
