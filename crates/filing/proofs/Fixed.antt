-- What three lines ask for is these numbers.
use mathlib.Core.Path.{refl}
use Rattle.laws.specs.Runs.{each_of}
use Rattle.line.specs.Line.{first_line, after_line, decimal}
use Rattle.line.specs.Answers.{line_of, line_answer}
use Rattle.sheet.specs.Answers.{sheet_answer, sheet_buffer}
use Rattle.sheet.proofs.Fixed.{words_fixed as sheets}
use Rattle.filing.specs.Answers.{sheet_on_lines, sheet_on_lines_buffer}
use Rattle.filing.specs.Fixed.{WordsFixed}

pub words_fixed : WordsFixed
unfolding sheet_on_lines sheet_on_lines_buffer line_answer line_of first_line after_line each_of decimal sheet_answer sheet_buffer
words_fixed =
    record {
      wing_1 = sheets.short.0;
      guest_wing = sheets.short.1;
      noughts = sheets.short.1;
      no_wing = (refl, refl);
      no_years = ((refl, refl), (refl, refl));
      no_year = ((refl, refl), (refl, refl));
      nothing = (refl, refl);
    }
