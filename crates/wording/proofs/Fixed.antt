-- These are the numbers.
use mathlib.Core.Path.{refl}
use Rattle.std.specs.Fmt.{digits}
use Rattle.laws.specs.Runs.{each_of}
use Rattle.line.specs.Line.{first_line, after_line, decimal}
use Rattle.civil.specs.Answers.{civil_date}
use Rattle.civil.proofs.Fixed.{words_fixed as dates}
use Rattle.molad.specs.Years.{leap}
use Rattle.molad.specs.Molad.{no_month}
use Rattle.notice.proofs.Fixed.{words_fixed as notices}
use Rattle.wording.specs.Answers.{notice_on, notice_on_lines, shown_date}
use Rattle.wording.specs.Fixed.{WordsFixed}

pub words_fixed : WordsFixed
unfolding notice_on_lines notice_on first_line after_line each_of decimal leap no_month shown_date civil_date digits
words_fixed =
    record {
      wardens = notices.wardens;
      refused = (refl, refl, refl, refl, refl);
      dates = (refl, dates.gregorian_ends.0.1, dates.gregorian_ends.1.1);
      no_dates = (refl, refl);
      printed = (refl, refl);
    }
