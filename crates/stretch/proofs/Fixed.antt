-- The words of this crate are these numbers, worked out from New Years.
use mathlib.Core.Path.{◌≡◌, refl}
use mathlib.Core.Bool.{Bool, cond}
use mathlib.Core.List.{List}
use mathlib.Core.Logic.{inl, inr}
use Prim.Native.Nat.{ℕ, ◌+◌, ◌-◌, ◌≤◌, ◌<◌}
use native.Mathlib.Omega.{arith}
use lib.Dec.{ltb}
use Rattle.laws.specs.Begun.{begun}
use Rattle.laws.specs.Search.{seek, seek_not, run_start}
use Rattle.laws.proofs.Promises.{let_pass}
use Rattle.days.specs.Range.{last_day}
use Rattle.days.specs.Weekday.{weekday}
use Rattle.molad.specs.Years.{InYears}
use Rattle.newyear.specs.NewYear.{new_year, year_length}
use Rattle.newyear.proofs.Quick.{quick, new_year_quick}
use Rattle.hebrew.specs.Months.{month_length, days_before}
use Rattle.hebrew.specs.Dates.{month_of}
use Rattle.hebrew.specs.Steps.{year_date}
use Rattle.rest.specs.Wings.{IsWing, table_of}
use Rattle.rest.specs.Steps.{rest_at}
use Rattle.rest.proofs.Passed.{tables_pass}
use Rattle.rest.proofs.Wings.{wings}
use Rattle.stretch.specs.Steps.{next_at, first_for, past_for}
use Rattle.stretch.specs.Answers.{no_stretch, stretch_on, stretch_answer, wing_stretch}
use Rattle.stretch.specs.Fixed.{WordsFixed}
use Rattle.stretch.proofs.Year.{TableYear}
use Rattle.stretch.proofs.Answered.{worked_out}

-- Year h of the wing, which begins on day n, the next year on day `next`.
module _ (wing h n next : ℕ) (w : IsWing wing) (y : InYears h) (e : new_year h ≡ n) (f : new_year (h + 1) ≡ next) where
  abbrev table : List ℕ
  table = table_of wing

  abbrev year : TableYear
  year = record { table = table; year = h; ok = tables_pass wing; low = y.0; high = y.1 }

  abbrev rest : ℕ → Bool
  rest = rest_at table (weekday n) (next - n)

  -- The stretch for one of its days.
  pub stretch_from :
      (j : ℕ) → n ≤ j → j < next → let later = rest_at table (weekday n + (next - n)) (next - n) in
      let first = n + first_for rest (next - n) (j - n) in
      wing_stretch wing j ≡ cond (ltb last_day first) (no_stretch 9) (stretch_on j first (n + past_for rest later (next - n) (j - n)))
  unfolding year_length
  stretch_from j a b =
      let x : new_year h + (j - n) ≡ j = omega arith in
      rw (let_pass (wings wing) w) (rw (x, e, f) at (worked_out year (j - n) (omega arith)))

pub words_fixed : WordsFixed
unfolding quick table_of stretch_answer rest_at year_date month_of begun days_before month_length next_at first_for past_for seek seek_not run_start
words_fixed =
    let n1 : new_year 1 ≡ 347998 = new_year_quick 1 (omega arith) in
    let n2 : new_year 2 ≡ 348353 = new_year_quick 2 (omega arith) in
    let n5762 : new_year 5762 ≡ 2452171 = new_year_quick 5762 (omega arith) in
    let n5763 : new_year 5763 ≡ 2452525 = new_year_quick 5763 (omega arith) in
    let n5774 : new_year 5774 ≡ 2456541 = new_year_quick 5774 (omega arith) in
    let n5775 : new_year 5775 ≡ 2456926 = new_year_quick 5775 (omega arith) in
    let n5776 : new_year 5776 ≡ 2457280 = new_year_quick 5776 (omega arith) in
    let n9999 : new_year 9999 ≡ 3999723 = new_year_quick 9999 (omega arith) in
    let n10000 : new_year 10000 ≡ 4000076 = new_year_quick 10000 (omega arith) in
    record {
      second_days = (
        stretch_from 1 5762 2452171 2452525 (inl refl) (omega arith) n5762 n5763 2452186 (omega arith) (omega arith),
        stretch_from 2 5762 2452171 2452525 (inr refl) (omega arith) n5762 n5763 2452186 (omega arith) (omega arith),
        stretch_from 1 5775 2456926 2457280 (inl refl) (omega arith) n5775 n5776 2456942 (omega arith) (omega arith),
        stretch_from 2 5775 2456926 2457280 (inr refl) (omega arith) n5775 n5776 2456942 (omega arith) (omega arith),
      );
      eves = (
        stretch_from 1 5762 2452171 2452525 (inl refl) (omega arith) n5762 n5763 2452188 (omega arith) (omega arith),
        stretch_from 1 5774 2456541 2456926 (inl refl) (omega arith) n5774 n5775 2456925 (omega arith) (omega arith),
        stretch_from 1 9999 3999723 4000076 (inl refl) (omega arith) n9999 n10000 4000070 (omega arith) (omega arith),
        stretch_from 2 9999 3999723 4000076 (inr refl) (omega arith) n9999 n10000 4000070 (omega arith) (omega arith),
      );
      days_after = (
        stretch_from 1 1 347998 348353 (inl refl) (omega arith) n1 n2 348000 (omega arith) (omega arith),
        stretch_from 2 1 347998 348353 (inr refl) (omega arith) n1 n2 348000 (omega arith) (omega arith),
        stretch_from 1 5775 2456926 2457280 (inl refl) (omega arith) n5775 n5776 2456943 (omega arith) (omega arith),
        stretch_from 2 5775 2456926 2457280 (inr refl) (omega arith) n5775 n5776 2456943 (omega arith) (omega arith),
      );
      first_day_is = (
        stretch_from 1 1 347998 348353 (inl refl) (omega arith) n1 n2 347998 (omega arith) (omega arith),
        stretch_from 2 1 347998 348353 (inr refl) (omega arith) n1 n2 347998 (omega arith) (omega arith),
        refl,
        refl,
      );
      last_day_lem = (
        stretch_from 1 9999 3999723 4000076 (inl refl) (omega arith) n9999 n10000 4000071 (omega arith) (omega arith),
        stretch_from 2 9999 3999723 4000076 (inr refl) (omega arith) n9999 n10000 4000071 (omega arith) (omega arith),
        stretch_from 1 9999 3999723 4000076 (inl refl) (omega arith) n9999 n10000 4000072 (omega arith) (omega arith),
        stretch_from 2 9999 3999723 4000076 (inr refl) (omega arith) n9999 n10000 4000072 (omega arith) (omega arith),
        stretch_from 1 9999 3999723 4000076 (inl refl) (omega arith) n9999 n10000 4000075 (omega arith) (omega arith),
        stretch_from 2 9999 3999723 4000076 (inr refl) (omega arith) n9999 n10000 4000075 (omega arith) (omega arith),
        refl,
        refl,
      );
      no_wing = (refl, refl);
    }
