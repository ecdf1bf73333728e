-- The words of this crate are these numbers.
use mathlib.Core.Path.{◌≡◌, refl}
use mathlib.Core.Logic.{inl, inr, ⊎_elim, by_cases}
use Prim.Native.Nat.{◌+◌}
use native.Mathlib.Omega.{arith}
use native.Mathlib.Decide.{ℕ_discrete}
use Rattle.laws.specs.Buffer.{overwrite}
use Rattle.newyear.specs.NewYear.{new_year, year_length}
use Rattle.newyear.proofs.Quick.{quick, new_year_quick}
use Rattle.hebrew.specs.Months.{month_length, days_before}
use Rattle.hebrew.specs.Dates.{day_number}
use Rattle.lists.specs.Lists.{list_answer, list_buffer, days_of}
use Rattle.rest.specs.Wings.{table_of}
use Rattle.rest.specs.Fixed.{WordsFixed}

pub words_fixed : WordsFixed
unfolding list_answer list_buffer table_of days_of day_number days_before month_length overwrite quick year_length
words_fixed =
    let start : new_year 5762 ≡ 2452171 = new_year_quick 5762 (omega arith) in
    let long : new_year (5762 + 1) ≡ 2452525 = new_year_quick 5763 (omega arith) in
    record {
      wings =
          λ wing. (
            ⊎_elim (λ e. omega arith) (λ e. omega arith),
            λ m. by_cases (ℕ_discrete wing 1) (λ e. inl e) (λ e. inr (omega arith)),
          );
      wing_1 = (refl, rw (start, long));
      guest_wing = (refl, rw (start, long));
      ends = (refl, refl);
      no_wing = ((refl, refl), (refl, refl));
      no_year = ((refl, refl), (refl, refl), (refl, refl), (refl, refl));
      short = ((refl, refl), (refl, refl));
    }
