-- The words of this crate are these numbers, worked out from the closed month count.
use mathlib.Core.Path.{◌≡◌, refl}
use mathlib.Core.Bool.{cond}
use Prim.Native.Nat.{ℕ, ◌+◌, ◌-◌, ◌/◌, ◌%◌, ◌≤◌, ◌<◌}
use native.Mathlib.Omega.{arith}
use lib.Dec.{eqb, ltb}
use Rattle.laws.specs.Buffer.{overwrite}
use Rattle.molad.specs.Years.{last_year, InYears}
use Rattle.newyear.specs.NewYear.{new_year, year_length}
use Rattle.newyear.proofs.Quick.{quick, new_year_quick}
use Rattle.newyear.proofs.YearOf.{year_is}
use Rattle.hebrew.specs.Months.{month_length, days_before}
use Rattle.hebrew.specs.Dates.{day_number}
use Rattle.lists.specs.Lists.{list_answer, list_buffer, days_of}
use Rattle.fasts.specs.Fasts.{fast_table, kept_on, fast_day}
use Rattle.fasts.specs.Ahead.{no_fast, ahead_of, ahead_in, fast_ahead}
use Rattle.fasts.specs.Fixed.{WordsFixed}
use Rattle.fasts.specs.declared.Ahead.{Ahead}
use Rattle.fasts.proofs.Chosen.{tishri_falls}

-- The day on which the fast of a row is kept, by the New Years n and `later` of its year and of the next; and the fast ahead of
-- day j of that year, h.
unfoldable pub day_by : ℕ → ℕ → ℕ → ℕ
day_by n later r = kept_on (r / 100) (n + days_before (later - n) (r / 100) + (r % 100 - 1))

unfoldable pub ahead_by : ℕ → ℕ → ℕ → ℕ → Ahead
ahead_by h n later j =
    let own = ahead_in (day_by n later) j fast_table in
    cond (eqb own.none 0) own (cond (ltb h last_year) (ahead_of j 1 (kept_on 1 (later + 2))) no_fast)

module _ (h n later : ℕ) (y : InYears h) (e : new_year h ≡ n) (f : new_year (h + 1) ≡ later) where
  day_by_lem : fast_day h ≡ day_by n later
  unfolding day_by fast_day day_number year_length
  day_by_lem = λ k r. kept_on (r / 100) (e k + days_before (f k - e k) (r / 100) + (r % 100 - 1))

  pub fast_from : (j : ℕ) → n ≤ j → j < later → fast_ahead j ≡ ahead_by h n later j
  unfolding ahead_by fast_ahead
  fast_from j l u =
      let i = year_is j h (record { low = y.0; high = y.1; from = omega arith; before = omega arith }) in rw (i, day_by_lem, tishri_falls (h + 1), f)

pub words_fixed : WordsFixed
unfolding list_answer list_buffer days_of fast_day kept_on day_number days_before month_length year_length overwrite quick ahead_by day_by ahead_in
words_fixed =
    let n1 : new_year 1 ≡ 347998 = new_year_quick 1 (omega arith) in
    let n2 : new_year (1 + 1) ≡ 348353 = new_year_quick 2 (omega arith) in
    let n5782 : new_year 5782 ≡ 2459465 = new_year_quick 5782 (omega arith) in
    let n5783 : new_year (5782 + 1) ≡ 2459849 = new_year_quick 5783 (omega arith) in
    let n5784 : new_year 5784 ≡ 2460204 = new_year_quick 5784 (omega arith) in
    let n5785 : new_year (5784 + 1) ≡ 2460587 = new_year_quick 5785 (omega arith) in
    let m5785 : new_year 5785 ≡ 2460587 = new_year_quick 5785 (omega arith) in
    let n5786 : new_year (5785 + 1) ≡ 2460942 = new_year_quick 5786 (omega arith) in
    let n9999 : new_year 9999 ≡ 3999723 = new_year_quick 9999 (omega arith) in
    let n10000 : new_year (9999 + 1) ≡ 4000076 = new_year_quick 10000 (omega arith) in
    let of-5784 = fast_from 5784 2460204 2460587 (omega arith, omega arith) n5784 n5785 in
    let of-9999 = fast_from 9999 3999723 4000076 (omega arith, omega arith) n9999 n10000 in
    record {
      years = ((refl, rw (n5785, n5784)), (refl, rw (n5786, m5785)), (refl, rw (n5783, n5782)));
      ends = ((refl, rw (n2, n1)), (refl, rw (n10000, n9999)));
      no_year = ((refl, refl), (refl, refl), (refl, refl));
      short = ((refl, refl), (refl, refl));
      in_turn = (
        of-5784 2460204 (omega arith) (omega arith),
        of-5784 2460206 (omega arith) (omega arith),
        of-5784 2460207 (omega arith) (omega arith),
        of-5784 2460301 (omega arith) (omega arith),
        of-5784 2460302 (omega arith) (omega arith),
        of-5784 2460391 (omega arith) (omega arith),
        of-5784 2460392 (omega arith) (omega arith),
        of-5784 2460515 (omega arith) (omega arith),
        of-5784 2460516 (omega arith) (omega arith),
        of-5784 2460536 (omega arith) (omega arith),
        of-5784 2460537 (omega arith) (omega arith),
      );
      of_range = (
        fast_from 1 347998 348353 (omega arith, omega arith) n1 n2 347998 (omega arith) (omega arith),
        of-9999 4000025 (omega arith) (omega arith),
        of-9999 4000026 (omega arith) (omega arith),
        of-9999 4000075 (omega arith) (omega arith),
      );
    }
