use Rattle.std.proofs.Common.{◌≡◌, ◌∙◌}
use Rattle.line.specs.Answers.{line_answer}
use Rattle.line.specs.Line.{after_line}
use Rattle.line.proofs.Lines.{later_lines}
use Rattle.line.proofs.Answers.{number_or_nought}
use Rattle.wording.proofs.Numbers.{by_numbers}
use Rattle.wording_code.proofs.notice_on_lines.Goals as goal

-- The second line begins a part of the input, and the lines' numbers ask for the notice.
pub returns : goal.returns
returns c =
    let s = c.args.input.now in
    let later = later_lines c.after_line-second.result s c.after_line-second.ensures.1 in
    let year : c.unwrap_or-year.result ≡ (line_answer s).number = c.unwrap_or-year.ensures ∙ number_or_nought s _ c.number_on_line.ensures in
    let month : c.unwrap_or-month.result ≡ (line_answer (after_line s)).number = c.unwrap_or-month.ensures ∙ number_or_nought _ _ (rw later at c.number_on_line-2.ensures) in
    rw (← by_numbers s, c.notice.ensures, year, month)
