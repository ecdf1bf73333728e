-- A year's kind alone fixes its stretches: how many, their lengths, and their first days counted from New Year. So the
-- most that a year has is told by the fourteen kinds.
use mathlib.Core.Path.{◌≡◌, refl, sym}
use mathlib.Core.Bool.{Bool, true, false, ◌&&◌, not, cond}
use mathlib.Core.List.{List, [], ◌∷◌, ◌++◌}
use Prim.Native.Nat.{ℕ, zero, suc, ◌+◌, ◌*◌, ◌-◌, ◌≤◌}
use native.Mathlib.Omega.{arith}
use borrow.Author.Tests.{lt-ltb, leb-true}
use lib.Dec.{eqb, ltb, leb}
use lib.ListN.{length, length-append}
use Rattle.laws.specs.Begun.{begun}
use Rattle.laws.specs.Runs.{each_of}
use Rattle.laws.specs.Search.{run_start}
use Rattle.days.specs.Weekday.{weekday}
use Rattle.molad.specs.Years.{InYears}
use Rattle.newyear.specs.NewYear.{new_year, year_length}
use Rattle.newyear.specs.Kinds.{IsLength, kind_code, IsKind, every_kind, kind_of}
use Rattle.newyear.proofs.Lengths.{length_in, kind_in, kind_passes}
use Rattle.hebrew.specs.Months.{month_length, days_before}
use Rattle.hebrew.specs.Dates.{month_of}
use Rattle.hebrew.specs.Steps.{year_date, tomorrow}
use Rattle.hebrew.specs.declared.YearDate.{YearDate}
use Rattle.hebrew.proofs.Walked.{tomorrow_is}
use Rattle.rest.specs.Table.{rest_table, guest_table}
use Rattle.rest.specs.Wings.{table_of}
use Rattle.rest.specs.Check.{passes}
use Rattle.rest.specs.Steps.{rest_on, rest_at}
use Rattle.rest.proofs.Passed.{tables_pass}
use Rattle.stretches.specs.Stretches.{stretch_rows}
use Rattle.stretches.specs.Steps.{run_before, rows_at}
use Rattle.stretches.specs.Promises.{counted_from, rows_of_kind, most_stretches, stretches_room}
use Rattle.stretches.proofs.Growing.{ends, run_few, run_more, rows_yes, rows_no}
use Rattle.stretches.proofs.WholeList.{Pairs, none, more, both, one_row}
use Rattle.stretches.proofs.Ended.{stretches_same}

counted_more : (j : ℕ) {l : List ℕ} (m : List ℕ) → Pairs l → counted_from j (l ++ m) ≡ counted_from j l ++ counted_from j m
unfolding counted_from
counted_more j m none = refl
counted_more j m (more p) = rw (counted_more j m p)

counted_long : (j : ℕ) {l : List ℕ} → Pairs l → length (counted_from j l) ≡ length l
unfolding counted_from
counted_long j none = refl
counted_long j (more p) = rw (counted_long j p)

module _ (rest : ℕ → Bool) (j : ℕ) where
  in_pairs : (n : ℕ) → Pairs (rows_at rest j n)
  unfolding rows_at
  in_pairs zero = none
  in_pairs (suc n) = both (in_pairs n) (one_row (ends rest n) _ _)

  counted_row : (b : Bool) (n r : ℕ) → r ≤ n → counted_from j (cond b ((j + n - r) ∷ r ∷ []) []) ≡ cond b ((0 + n - r) ∷ r ∷ []) []
  unfolding counted_from
  counted_row true n r p = let e : j + n - r - j ≡ 0 + n - r = omega arith in rw e
  counted_row false n r p = refl

  counted_rows : (n : ℕ) → counted_from j (rows_at rest j n) ≡ rows_at rest 0 n
  unfolding rows_at counted_from
  counted_rows zero = refl
  counted_rows (suc n) = rw (counted_more j _ (in_pairs n), counted_rows n, counted_row (ends rest n) n (run_before rest n) (run_few rest n))

-- How many entries these take, counted by walking from date to date, as the code does, so that it computes at once: two for
-- each run that has ended on the day before one of the n days from this date on, where `rested` tells of the day before.
unfoldable pub entries : List ℕ → ℕ → ℕ → ℕ → YearDate → Bool → ℕ
entries table w len zero date rested = 0
entries table w len (suc n) date rested =
    let rests = rest_on table w date in
    cond (not rests && rested) 2 0 + entries table w len n (tomorrow len date) rests

abbrev pub entries_of : List ℕ → ℕ → ℕ → ℕ
entries_of table w len = entries table w len len (year_date len 0) false

module _ (table : List ℕ) (w len : ℕ) (k : IsLength len) where
  abbrev rest : ℕ → Bool
  rest = rest_at table w len

  rested_more : (x : ℕ) (b : Bool) → rest x ≡ b → ltb 0 (run_before rest (x + 1)) ≡ b
  rested_more x true e = rw (run_more rest x, e) (lt-ltb 0 (run_before rest x + 1) (omega arith))
  rested_more x false e = rw (run_more rest x, e)

  one_more : (x : ℕ) → length (rows_at rest 0 (x + 1)) ≡ length (rows_at rest 0 x) + cond (ends rest x) 2 0
  one_more x = go (ends rest x) refl
    where
      go : (b : Bool) → ends rest x ≡ b → length (rows_at rest 0 (x + 1)) ≡ length (rows_at rest 0 x) + cond b 2 0
      go true e = rw (rows_yes rest 0 x e) (simp length-append)
      go false e = rw (rows_no rest 0 x e) (omega arith)

  counted : (n x : ℕ) → x + n ≤ len → length (rows_at rest 0 x) + entries table w len n (year_date len x) (ltb 0 (run_before rest x)) ≡ length (rows_at rest 0 (x + n))
  unfolding entries rest_at
  counted zero x p = let e : x + 0 ≡ x = omega arith in rw e (omega arith)
  counted (suc n) x p =
      let e : x + suc n ≡ x + 1 + n = omega arith in
      let c = rw (one_more x, rested_more x (rest x) refl) at (counted n (x + 1) (omega arith)) in
      rw (e, tomorrow_is len x k (omega arith)) (omega (arith, c))

  entries_of_lem : length (rows_of_kind table w len) ≡ entries_of table w len
  unfolding rows_of_kind rows_at run_before run_start
  entries_of_lem = let z : 0 + len ≡ len = omega arith in omega (arith, rw z at (counted len 0 (omega arith)))

  -- So many, whatever day the year begins on.
  pub long_rows : (j : ℕ) → length (rows_at rest j len) ≡ entries_of table w len
  unfolding rows_of_kind
  long_rows j = rw (← entries_of_lem, ← counted_rows rest j len) (sym (counted_long j (in_pairs rest j len)))

-- What holds of wing 1's table with 60 and of the guest wing's with 59 holds of every wing's.
for_wings : (P : List ℕ → ℕ → Type 0) → P rest_table 60 → P guest_table 59 → (wing : ℕ) → P (table_of wing) (most_stretches wing)
unfolding table_of
for_wings P one guest wing = go (eqb wing 1)
  where
    go : (first : Bool) → P (cond first rest_table guest_table) (cond first 60 59)
    go true = one
    go false = guest

-- Two entries for each stretch.
most : (wing : ℕ) → every_kind (λ w len. leb (entries_of (table_of wing) w len) (2 * most_stretches wing)) ≡ true
unfolding every_kind each_of entries tomorrow year_date month_of begun month_length days_before
most = for_wings (λ table n. every_kind (λ w len. leb (entries_of table w len) (2 * n)) ≡ true) refl refl

-- As many has a year of 383 days with New Year on a Monday.
pub as_many : (wing : ℕ) → entries_of (table_of wing) 2 383 ≡ 2 * most_stretches wing
unfolding entries tomorrow year_date month_of begun month_length days_before
as_many = for_wings (λ table n. entries_of table 2 383 ≡ 2 * n) refl refl

pub most_in_room : (wing : ℕ) → 2 * most_stretches wing ≤ stretches_room
most_in_room = for_wings (λ table n. 2 * n ≤ stretches_room) (omega arith) (omega arith)

-- No year of one of the fourteen kinds takes more entries.
module _ (wing w len : ℕ) (n : IsLength len) (k : IsKind (kind_code w len)) where
  few_entries : entries_of (table_of wing) w len ≤ 2 * most_stretches wing
  few_entries = leb-true _ _ (kind_passes (λ w len. leb (entries_of (table_of wing) w len) (2 * most_stretches wing)) (most wing) w len n k)

  pub rows_in_room : (j : ℕ) → length (rows_at (rest_at (table_of wing) w len) j len) ≤ stretches_room
  rows_in_room j = omega (arith, long_rows (table_of wing) w len n j, few_entries, most_in_room wing)

-- The stretches of a year.
module _ (table : List ℕ) (ok : passes table ≡ true) (h : ℕ) (y : InYears h) where
  same : stretch_rows table h ≡ rows_at (rest_at table (weekday (new_year h)) (year_length h)) (new_year h) (year_length h)
  same = stretches_same (record { table = table; year = h; ok = ok; low = y.0; high = y.1 })

  pub stretches_by_kind : counted_from (new_year h) (stretch_rows table h) ≡ rows_of_kind table (weekday (new_year h)) (year_length h)
  unfolding rows_of_kind
  stretches_by_kind = rw same (counted_rows _ (new_year h) (year_length h))

  -- So the kind tells how many entries the list of the year takes.
  pub long_by_kind : length (stretch_rows table h) ≡ entries_of table (weekday (new_year h)) (year_length h)
  long_by_kind = rw same (long_rows table (weekday (new_year h)) (year_length h) (length_in h y.0 (omega (arith, y.1))) (new_year h))

pub few : (wing h : ℕ) → InYears h → length (stretch_rows (table_of wing) h) ≤ 2 * most_stretches wing
unfolding kind_of
few wing h y =
    rw (long_by_kind (table_of wing) (tables_pass wing) h y)
    (few_entries wing (weekday (new_year h)) (year_length h) (length_in h y.0 (omega (arith, y.1))) (kind_in h y.0 (omega (arith, y.1))))
