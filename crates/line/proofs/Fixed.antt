-- The words of this crate are these numbers.
use mathlib.Core.Path.{refl}
use Rattle.laws.specs.Runs.{each_of}
use Rattle.line.specs.Line.{first_line, after_line, decimal}
use Rattle.line.specs.Answers.{line_of, line_answer}
use Rattle.line.specs.Fixed.{WordsFixed}

pub words_fixed : WordsFixed
unfolding line_answer line_of first_line after_line each_of decimal
words_fixed =
    record {
      one_to_five = (refl, refl, refl, refl);
      none_or_six = (refl, refl, refl);
      figures = (refl, refl);
      no_figures = (refl, refl, refl, refl, refl, refl);
      first_line_is = (refl, refl);
      after_line_is = (refl, refl);
    }
