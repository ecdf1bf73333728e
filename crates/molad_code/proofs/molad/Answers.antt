use Rattle.molad.specs.Answers.{no_molad, molad_on, molad_answer}
use Rattle.molad_code.proofs.Refused.{month_refused}
use Rattle.molad_code.proofs.molad.Goals as goal

pub returns-in-Ok : goal.returns-in-Ok
unfolding molad_answer
returns-in-Ok c =
    let e = c.in-Ok.ensures in
    rw (e.0, e.1.0, c.hour.ensures, c.part.ensures, e.1.1.0, e.1.1.1)

pub returns-in-Err : goal.returns-in-Err
unfolding molad_answer
returns-in-Err c =
    let e = c.in-Err.ensures in rw (← month_refused no_molad (molad_on c.args.year c.args.month) _ _ c.in-Err.why e.0 e.1, c.number.ensures) cc
