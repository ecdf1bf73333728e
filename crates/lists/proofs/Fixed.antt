-- The words of this crate are these numbers.
use mathlib.Core.Path.{refl}
use native.Mathlib.Omega.{arith}
use Rattle.laws.specs.Buffer.{overwrite}
use Rattle.lists.specs.Lists.{list_answer, list_buffer, days_of}
use Rattle.lists.specs.Fixed.{WordsFixed}

pub words_fixed : WordsFixed
unfolding list_answer list_buffer days_of overwrite
words_fixed =
    record {
      written = ((refl, refl), (refl, refl));
      no_year = ((refl, refl), (refl, refl), (refl, refl));
      short = ((refl, refl), (refl, refl));
      days = refl;
      rising = (tt, tt, (omega arith, (omega arith, tt)));
      not_rising = (λ up. omega arith, λ up. omega arith, λ up. omega arith);
    }
