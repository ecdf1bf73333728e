use Rattle.hebrew.specs.Months.{month_length}
use Rattle.newyear.specs.NewYear.{year_length}
use Rattle.hebrew.specs.declared.MonthAnswer.{MonthAnswer}
use Rattle.hebrew.specs.Answers.{month_answer}
use Rattle.molad_code.proofs.Refused.{month_refused}
use Rattle.hebrew_code.proofs.month_length.Goals as goal

pub returns-in-Ok : goal.returns-in-Ok
unfolding month_answer
returns-in-Ok c =
    let s = c.in-Ok in
    rw (s.ensures.0, s.ensures.1.0, c.days_in.ensures, s.span.is_span.days, s.ensures.1.1)

pub returns-in-Err : goal.returns-in-Err
unfolding month_answer
returns-in-Err c =
    let e = c.in-Err.ensures in
    rw (
      ← month_refused {A = MonthAnswer} (λ n. record { refusal = n; days = 0 }) (record { refusal = 0; days = month_length (year_length c.args.year) c.args.month }) _ _ c.in-Err.why e.0 e.1,
      c.number.ensures,
    )
    cc
