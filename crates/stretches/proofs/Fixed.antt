-- The words of this crate are these numbers, worked out from New Years.
use mathlib.Core.Path.{◌≡◌, refl, sym}
use mathlib.Core.Bool.{Bool}
use mathlib.Core.List.{List, [], append-nil}
use mathlib.Core.Logic.{inl, inr}
use Prim.Native.Nat.{ℕ, zero, suc, ◌+◌, ◌*◌, ◌-◌, ◌≤◌}
use native.Mathlib.Omega.{arith}
use lib.ListN.{length}
use Rattle.laws.specs.Begun.{begun}
use Rattle.laws.specs.Search.{run_start}
use Rattle.laws.proofs.Joins.{Holds, held_part, holds_in, holds_first}
use Rattle.days.specs.Weekday.{weekday}
use Rattle.molad.specs.Years.{InYears}
use Rattle.newyear.specs.NewYear.{new_year, year_length}
use Rattle.newyear.proofs.Quick.{quick, new_year_quick}
use Rattle.hebrew.specs.Months.{month_length, days_before}
use Rattle.hebrew.specs.Dates.{month_of}
use Rattle.hebrew.specs.Steps.{year_date, tomorrow}
use Rattle.lists.specs.Lists.{list_answer, list_buffer}
use Rattle.rest.specs.Wings.{IsWing, table_of}
use Rattle.rest.specs.Steps.{rest_at}
use Rattle.rest.proofs.Passed.{tables_pass}
use Rattle.stretches.specs.Stretches.{stretch_rows}
use Rattle.stretches.specs.Steps.{run_before, rows_at}
use Rattle.stretches.specs.Answers.{wing_stretches, wing_stretches_buffer}
use Rattle.stretches.specs.Fixed.{Lists, WordsFixed}
use Rattle.stretches.proofs.Ended.{stretches_same}
use Rattle.stretches.proofs.OfKind.{entries, entries_of, long_by_kind}
use Rattle.stretches.proofs.Answers.{stretches_promised, stretches_lent}
use Rattle.stretches.proofs.Room.{stretches_room_lem}

-- The list of a year's first k days is what its whole list begins with.
rows_begin : (rest : ℕ → Bool) (j k n : ℕ) → Holds (rows_at rest j (k + n)) 0 (rows_at rest j k)
unfolding rows_at
rows_begin rest j k zero =
    let e : k + 0 ≡ k = omega arith in
    rw e (record { before = []; after = []; place = refl; whole = sym (append-nil (rows_at rest j k)) })
rows_begin rest j k (suc n) = let e : k + suc n ≡ suc (k + n) = omega arith in rw e (more (k + n) (rows_begin rest j k n))
  where
    more : (m : ℕ) → Holds (rows_at rest j m) 0 (rows_at rest j k) → Holds (rows_at rest j (suc m)) 0 (rows_at rest j k)
    more m h = holds_in _ (rows_at rest j m) _ 0 0 0 (holds_first (rows_at rest j m) _) h refl

-- Year h of the wing, which begins on day n, the next year on day `next`.
module _ (wing h n next : ℕ) (w : IsWing wing) (y : InYears h) (e : new_year h ≡ n) (f : new_year (h + 1) ≡ next) where
  abbrev table : List ℕ
  table = table_of wing

  abbrev rest : ℕ → Bool
  rest = rest_at table (weekday n) (next - n)

  -- Its list.
  pub long_from : length (stretch_rows table h) ≡ entries_of table (weekday n) (next - n)
  unfolding year_length
  long_from = rw (e, f) at (long_by_kind table (tables_pass wing) h y)

  -- What it begins with, from the year's first days.
  pub begins_from : (days : ℕ) → days ≤ next - n → Holds (stretch_rows table h) 0 (rows_at rest n days)
  unfolding year_length
  begins_from days d =
      let whole : days + (next - n - days) ≡ next - n = omega arith in
      let same = rw (e, f) at (stretches_same (record { table = table; year = h; ok = tables_pass wing; low = y.0; high = y.1 })) in
      rw (whole, ← same) at (rows_begin rest n days (next - n - days))

  pub lists_from : (count days : ℕ) → entries_of table (weekday n) (next - n) ≡ 2 * count → days ≤ next - n → Lists wing h count (rows_at rest n days)
  lists_from count days c d buffer p =
      let z = stretches_room_lem wing w h buffer y p in
      let t = stretches_promised wing h buffer in
      let met = t.done.0 z in
      let told : (wing_stretches wing h buffer).count ≡ count = omega (arith, t.values met, long_from, c) in
      let list = stretch_rows table h in (
        λ i. record { refusal = z i; count = told i },
        held_part (wing_stretches_buffer wing h buffer) (rows_at rest n days) 0 _
            (rw ((stretches_lent wing h buffer).written z) (holds_in _ list _ 0 0 0 (holds_first list _) (begins_from days d) refl)) refl,
      )

pub words_fixed : WordsFixed
unfolding quick table_of list_answer list_buffer rest_at year_date month_of begun days_before month_length tomorrow run_start entries rows_at run_before
words_fixed =
    let n1 : new_year 1 ≡ 347998 = new_year_quick 1 (omega arith) in
    let n2 : new_year 2 ≡ 348353 = new_year_quick 2 (omega arith) in
    let n5775 : new_year 5775 ≡ 2456926 = new_year_quick 5775 (omega arith) in
    let n5776 : new_year 5776 ≡ 2457280 = new_year_quick 5776 (omega arith) in
    let n9999 : new_year 9999 ≡ 3999723 = new_year_quick 9999 (omega arith) in
    let n10000 : new_year 10000 ≡ 4000076 = new_year_quick 10000 (omega arith) in
    let long-1 : length (stretch_rows (table_of 1) 5775) ≡ 106 = long_from 1 5775 2456926 2457280 (inl refl) (omega arith) n5775 n5776 in
    let long-2 : length (stretch_rows (table_of 2) 5775) ≡ 102 = long_from 2 5775 2456926 2457280 (inr refl) (omega arith) n5775 n5776 in
    record {
      no_wing = ((refl, refl), (refl, refl));
      wing_1 = lists_from 1 5775 2456926 2457280 (inl refl) (omega arith) n5775 n5776 53 30 refl (omega arith);
      guest_wing = lists_from 2 5775 2456926 2457280 (inr refl) (omega arith) n5775 n5776 51 30 refl (omega arith);
      ends = (
        lists_from 1 1 347998 348353 (inl refl) (omega arith) n1 n2 56 0 refl (omega arith),
        lists_from 2 1 347998 348353 (inr refl) (omega arith) n1 n2 55 0 refl (omega arith),
        lists_from 1 9999 3999723 4000076 (inl refl) (omega arith) n9999 n10000 57 0 refl (omega arith),
        lists_from 2 9999 3999723 4000076 (inr refl) (omega arith) n9999 n10000 57 0 refl (omega arith),
      );
      no_year = ((refl, refl), (refl, refl), (refl, refl), (refl, refl));
      short = ((rw long-1, rw long-1), (rw long-2, rw long-2));
    }
