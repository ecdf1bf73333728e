-- The words of this crate are these numbers.
use mathlib.Core.Path.{refl}
use Rattle.days.specs.Weekday.{weekday_answer}
use Rattle.days.specs.Fixed.{WordsFixed}

pub words_fixed : WordsFixed
unfolding weekday_answer
words_fixed =
    record {
      range = λ j. (λ m. m, λ m. m);
      weekdays = λ j. refl;
      first_day_is = (refl, refl);
      last_day_lem = (refl, refl);
      week = (refl, refl, refl, refl, refl, refl, refl);
    }
