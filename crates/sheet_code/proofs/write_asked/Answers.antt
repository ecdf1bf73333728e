use mathlib.Core.Path.{◌∙◌}
use Rattle.std.proofs.lemmas.Result.{err_from_is_err_and}
use Rattle.sheet_code.proofs.Asked.{refused_answer, refused_buffer, given_answer, given_buffer}
use Rattle.sheet_code.proofs.write_asked.Goals as goal

pub returns-in_err-years-clause-answer : goal.returns-in_err-years-clause-answer
returns-in_err-years-clause-answer c =
    let p = err_from_is_err_and c.from_residual-in_err-years.result c.from_residual-in_err-years.ensures.1 in
    rw (p.1, p.2) (refused_answer c.in_ok-wing.wing c.args.wing c.args.first_year c.args.years c.args.out.now c.in_ok-wing.ensures _ c.in_err-years.ensures)

pub returns-in_err-years-clause-left : goal.returns-in_err-years-clause-left
returns-in_err-years-clause-left c = refused_buffer c.in_ok-wing.wing c.args.wing c.args.first_year c.args.years c.args.out.now c.in_ok-wing.ensures _ c.in_err-years.ensures

pub returns-clause-answer : goal.returns-clause-answer
returns-clause-answer c =
    let a = c.args in
    c.write_sheet.ensures.0 ∙ given_answer c.in_ok-wing.wing a.wing a.first_year a.years a.out.now c.in_ok-wing.ensures c.in_ok-years.years c.in_ok-years.ensures

pub returns-clause-left : goal.returns-clause-left
returns-clause-left c =
    let a = c.args in
    c.write_sheet.ensures.1 ∙ given_buffer c.in_ok-wing.wing a.wing a.first_year a.years a.out.now c.in_ok-wing.ensures c.in_ok-years.years c.in_ok-years.ensures
