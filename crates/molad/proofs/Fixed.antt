-- The words of this crate are these numbers.
use mathlib.Core.Path.{◌≡◌, refl}
use mathlib.Core.Bool.{false≢true}
use Prim.Native.Nat.{◌+◌, ◌%◌}
use native.Mathlib.Omega.{arith}
use Rattle.molad.specs.Years.{leap, months_in, months_to, months_before}
use Rattle.molad.specs.Molad.{no_month, months_of_year_before, molad_after, molad_parts, molad_day, molad_time}
use Rattle.molad.specs.Answers.{molad_answer}
use Rattle.molad.specs.Fixed.{WordsFixed}

pub words_fixed : WordsFixed
unfolding leap months_in molad_answer molad_day molad_time molad_parts molad_after months_before months_to months_of_year_before no_month
words_fixed =
    record {
      years = λ h. (λ m. m, λ m. m);
      new_years = λ h. (λ m. m, λ m. m);
      first_cycle = refl;
      every_cycle = λ h. let e : (h + 19) % 19 ≡ h % 19 = omega arith in rw e;
      codes =
          λ code. (
            (λ m. m.0, λ m. (m, λ _. refl)),
            (λ m. (m.0, λ e. false≢true (m.1 e)), λ m. (m.0, λ e. absurd (m.1 e))),
          );
      molads = (refl, refl, refl, refl);
      no_year = (refl, refl);
      no_month_is = (refl, refl, refl, refl, refl);
    }
