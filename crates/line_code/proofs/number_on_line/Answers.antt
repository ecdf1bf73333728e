use Rattle.std.proofs.Common.{rules}
use mathlib.Core.Bool.{false≢true}
use Rattle.line.specs.Line.{IsNumber}
use Rattle.line.specs.Answers.{line_answer}
use Rattle.line.proofs.Answers.{number_told, none_told}
use Rattle.line_code.proofs.number_on_line.Goals as goal

pub returns-then-is_number : goal.returns-then-is_number
unfolding line_answer
returns-then-is_number c =
    let number : IsNumber c.first_line-line.result.now = c.is_number.ensures.0 (search rules) in
    rw (c.decimal.ensures, ← number_told _ number, c.first_line-line.ensures)

pub returns-else-is_number : goal.returns-else-is_number
unfolding line_answer
returns-else-is_number c =
    let none : (¬ IsNumber c.first_line-line.result.now) = λ m. false≢true (rw c.if-is_number.false at (c.is_number.ensures.1 m)) in
    rw (← none_told _ none, c.first_line-line.ensures)
