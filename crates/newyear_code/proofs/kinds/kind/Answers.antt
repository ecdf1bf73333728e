use native.Mathlib.Omega.{arith}
use Rattle.newyear.specs.Kinds.{kind_of}
use Rattle.newyear.specs.Answers.{kind_answer}
use Rattle.newyear.proofs.Lengths.{kind_in}
use Rattle.newyear_code.proofs.kinds.kind.Goals as goal

pub kind_number-requires : goal.kind_number-requires
unfolding kind_of
kind_number-requires c =
    let s = c.in-Ok.span in
    let e = s.is_span in
    (e.measured, rw (c.weekday_of-weekday.ensures, e.begins, e.days) (kind_in s.year e.first (omega (arith, e.last))))

pub returns-in-Ok : goal.returns-in-Ok
unfolding kind_answer kind_of
returns-in-Ok c =
    let e = c.in-Ok.span.is_span in
    rw (c.in-Ok.ensures.0, c.kind_number.ensures, c.weekday_of-weekday.ensures, e.begins, e.days, c.in-Ok.ensures.1)

pub returns-in-Err : goal.returns-in-Err
unfolding kind_answer
returns-in-Err c = rw (c.in-Err.ensures.0, c.number.ensures, c.in-Err.ensures.1) cc
