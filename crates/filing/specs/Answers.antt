-- What `sheet_on_lines` answers, and what it makes of the lent bytes.
use Rattle.std.specs.Prelude.{List, ℕ}
use Rattle.lists.specs.declared.ListAnswer.{ListAnswer}
use Rattle.line.specs.Line.{after_line}
use Rattle.line.specs.Answers.{line_answer}
use Rattle.sheet.specs.Answers.{wing_sheet, wing_sheet_buffer}

-- The wing is on the input's first line, the first year on the second and how many years on the third. A line that is not
-- one to five figures has the number 0, which is no wing, no year and no count of years.
abbrev pub wing_on : List ℕ → ℕ
wing_on input = (line_answer input).number

abbrev pub first_year_on : List ℕ → ℕ
first_year_on input = (line_answer (after_line input)).number

abbrev pub years_on : List ℕ → ℕ
years_on input = (line_answer (after_line (after_line input))).number

unfoldable pub sheet_on_lines : List ℕ → List ℕ → ListAnswer
sheet_on_lines input buffer = wing_sheet (wing_on input) (first_year_on input) (years_on input) buffer

unfoldable pub sheet_on_lines_buffer : List ℕ → List ℕ → List ℕ
sheet_on_lines_buffer input buffer = wing_sheet_buffer (wing_on input) (first_year_on input) (years_on input) buffer
