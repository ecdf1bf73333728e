-- The notice shows these numbers.
use mathlib.Core.Path.{refl}
use native.Mathlib.Omega.{arith}
use Rattle.molad.specs.Years.{leap}
use Rattle.molad.specs.Molad.{no_month, months_of_year_before, molad_after, molad_parts, molad_day, molad_time}
use Rattle.molad.proofs.Closed.{months_closed}
use Rattle.notice.specs.Answers.{notice_answer}
use Rattle.notice.specs.Fixed.{WordsFixed}

pub words_fixed : WordsFixed
unfolding notice_answer molad_day molad_time molad_parts molad_after months_of_year_before no_month leap
words_fixed =
    record {
      first = rw (months_closed 1 (omega arith));
      last = rw (months_closed 9999 (omega arith));
      wardens = rw (months_closed 5762 (omega arith));
      adar = rw (months_closed 5784 (omega arith));
      no_year = (refl, refl);
      no_month_is = (refl, refl, refl);
    }
