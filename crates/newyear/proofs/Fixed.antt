-- The words of this crate are these numbers, worked out from the closed month count.
use mathlib.Core.Path.{◌≡◌, refl}
use Prim.Native.Nat.{ℕ, ◌+◌, ◌*◌, ◌-◌, ◌/◌, ◌%◌, ◌≤◌, ◌<◌}
use native.Mathlib.Omega.{arith}
use Rattle.laws.specs.Runs.{place_in}
use Rattle.laws.proofs.Promises.{ranged, let_pass}
use Rattle.days.specs.Range.{first_day, last_day}
use Rattle.days.specs.Weekday.{weekday}
use Rattle.molad.specs.Units.{parts_in_day}
use Rattle.molad.specs.Years.{leap, months_in, last_year, InYears, last_new_year, InNewYears}
use Rattle.molad.specs.Molad.{molad_after}
use Rattle.molad.proofs.Closed.{months_closed}
use Rattle.newyear.specs.NewYear.{year_length, InYear}
use Rattle.newyear.specs.Kinds.{kind_of, kind_number}
use Rattle.newyear.specs.Answers.{new_year_on, new_year_answer, year_answer, kind_answer, year_of_day_answer}
use Rattle.newyear.specs.declared.NewYearAnswer.{NewYearAnswer}
use Rattle.newyear.specs.Fixed.{WordsFixed, KindIs}
use Rattle.newyear.proofs.Quick.{tishri_day, tishri_time, quick_parts, quick_delay, quick, delay_in_quick, new_year_quick}
use Rattle.newyear.proofs.YearOf.{year_is, year_in_range}

-- The answers from the closed month count.
abbrev pub quick_answer : ℕ → NewYearAnswer
quick_answer h = new_year_on (quick h) (quick_parts h / parts_in_day) (quick_parts h % parts_in_day) (quick_delay h)

pub answer_quick : (h : ℕ) → InNewYears h → new_year_answer h ≡ quick_answer h
unfolding new_year_answer
answer_quick h y =
    rw (let_pass (ranged 1 last_new_year h) y, new_year_quick h y.0, delay_in_quick h y.0, tishri_day h, tishri_time h, months_closed h y.0)

year_quick :
    (h : ℕ) → InYears h →
    year_answer h
    ≡ record {
      refusal = 0;
      new_year = quick h;
      weekday = weekday (quick h);
      length = quick (h + 1) - quick h;
      months = months_in h;
      delay = (quick_delay h).delay;
      cause = (quick_delay h).cause;
    }
unfolding year_answer year_length
year_quick h y =
    rw (let_pass (ranged 1 last_year h) y, new_year_quick h y.0, new_year_quick (h + 1) (omega arith), delay_in_quick h y.0)

kind_quick : (h n w len : ℕ) → InYears h → weekday (quick h) ≡ w → quick (h + 1) - quick h ≡ len → kind_number (1000 * w + len) ≡ n → KindIs h n w len
unfolding kind_answer kind_of year_length
kind_quick h n w len y e f k =
    rw (let_pass (ranged 1 last_year h) y, new_year_quick h y.0, new_year_quick (h + 1) (omega arith), e, f, k)

-- The year that holds a day, from its New Year and the next.
pub held_quick : (j h : ℕ) → InYears h → quick h ≤ j → j < quick (h + 1) → year_of_day_answer j ≡ record { refusal = 0; year = h }
unfolding year_of_day_answer
held_quick j h y a b =
    let i : InYear j h = record { low = y.0; high = y.1; from = rw (new_year_quick h y.0) a; before = rw (new_year_quick (h + 1) (omega arith)) b } in
    rw (let_pass (ranged first_day last_day j) (year_in_range j h i), year_is j h i)

pub words_fixed : WordsFixed
unfolding quick quick_delay molad_after leap months_in kind_number place_in new_year_answer year_answer kind_answer year_of_day_answer
words_fixed =
    record {
      new_years = (answer_quick 1 (omega arith), answer_quick 10000 (omega arith));
      no_new_years = (refl, refl);
      causes = (
        answer_quick 4 (omega arith),
        answer_quick 2 (omega arith),
        answer_quick 3 (omega arith),
        answer_quick 7 (omega arith),
        answer_quick 75 (omega arith),
      );
      years = (year_quick 1 (omega arith), year_quick 9999 (omega arith), year_quick 3 (omega arith));
      no_years = ((refl, refl), (refl, refl));
      kinds = (
        kind_quick 15 1 2 353 (omega arith) refl refl refl,
        kind_quick 1 2 2 355 (omega arith) refl refl refl,
        kind_quick 8 3 2 383 (omega arith) refl refl refl,
        kind_quick 14 4 2 385 (omega arith) refl refl refl,
        kind_quick 4 5 3 354 (omega arith) refl refl refl,
        kind_quick 27 6 3 384 (omega arith) refl refl refl,
        kind_quick 7 7 5 354 (omega arith) refl refl refl,
        kind_quick 23 8 5 355 (omega arith) refl refl refl,
        kind_quick 3 9 5 383 (omega arith) refl refl refl,
        kind_quick 6 10 5 385 (omega arith) refl refl refl,
        kind_quick 26 11 7 353 (omega arith) refl refl refl,
        kind_quick 2 12 7 355 (omega arith) refl refl refl,
        kind_quick 19 13 7 383 (omega arith) refl refl refl,
        kind_quick 25 14 7 385 (omega arith) refl refl refl,
      );
      held = (
        held_quick 347998 1 (omega arith) (omega arith) (omega arith),
        held_quick 348352 1 (omega arith) (omega arith) (omega arith),
        held_quick 348353 2 (omega arith) (omega arith) (omega arith),
        held_quick 4000075 9999 (omega arith) (omega arith) (omega arith),
      );
      not_held = (refl, refl);
    }
