use borrow.Author.Rules.{rules}
use mathlib.Core.Path.{◌≡◌}
use mathlib.Core.Bool.{true, false}
use native.Mathlib.Omega.{arith}
use Rattle.laws.proofs.Tests.{within}
use Rattle.molad.specs.Years.{last_year, out_of_years, months_in}
use Rattle.newyear.specs.NewYear.{year_length}
use Rattle.newyear.specs.Answers.{year_answer}
use Rattle.newyear.proofs.Lengths.{rises, length_leap}
use Rattle.newyear_code.proofs.year.Goals as goal

pub returns-then-not-contains : goal.returns-then-not-contains
unfolding year_answer
returns-then-not-contains c =
    let out : out_of_years c.args.year ≡ true = search rules in rw out cc

pub overflow_sub-length : goal.overflow_sub-length
overflow_sub-length c =
    let covered : out_of_years c.args.year ≡ false = search rules in
    let y = within 1 last_year c.args.year covered in
    omega (arith, c.begins-first.ensures.day, rises c.args.year y.0 (omega arith))

pub returns : goal.returns
unfolding year_answer year_length months_in
returns c =
    let covered : out_of_years c.args.year ≡ false = search rules in
    let e = c.begins-first.ensures in
    let f = c.begins.ensures in
    let y = within 1 last_year c.args.year covered in
    let l = length_leap c.args.year y.0 (omega arith) in
    rw (covered, c.pick.ensures.0, e.day, e.on, e.late, f.day, l)
