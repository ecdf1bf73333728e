use Rattle.std.proofs.Common.{◌≡◌, ◌∙◌}
use Rattle.line.proofs.Lines.{later_lines}
use Rattle.line.proofs.Answers.{number_or_nought}
use Rattle.filing.specs.Answers.{wing_on, first_year_on, years_on, sheet_on_lines, sheet_on_lines_buffer}
use Rattle.filing_code.proofs.sheet_on_lines.Goals as goal

-- The second line begins a part of the input and the third a part of that one, and the lines' numbers ask for the sheet.
pub returns : goal.returns
unfolding sheet_on_lines sheet_on_lines_buffer
returns c =
    let s = c.args.input.now in
    let later = later_lines c.after_line-second.result s c.after_line-second.ensures.1 in
    let last = later_lines c.after_line-third.result _ c.after_line-third.ensures.1 in
    let wing : c.unwrap_or-wing.result ≡ wing_on s = c.unwrap_or-wing.ensures ∙ number_or_nought _ _ c.number_on_line.ensures in
    let first_year : c.unwrap_or-first_year.result ≡ first_year_on s = c.unwrap_or-first_year.ensures ∙ number_or_nought _ _ (rw later at c.number_on_line-2.ensures) in
    let years : c.unwrap_or-years.result ≡ years_on s = c.unwrap_or-years.ensures ∙ number_or_nought _ _ (rw (last, later) at c.number_on_line-3.ensures) in
    rw (wing, first_year, years) at c.sheet_write.ensures
