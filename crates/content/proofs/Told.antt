-- What is compared is what a sheet tells: the content agrees exactly if header and index lead to the calendar's years.
use mathlib.Core.Path.{◌≡◌, refl, sym, ◌∙◌}
use mathlib.Core.Bool.{true}
use mathlib.Core.List.{List, [], ◌∷◌}
use mathlib.Core.Logic.{by_cases}
use Prim.Native.Nat.{ℕ, zero, suc, ◌+◌, ◌*◌, ◌/◌, ◌≤◌, ◌<◌}
use native.Mathlib.Omega.{arith}
use native.Mathlib.Decide.{ℕ_discrete}
use lib.ListN.{length, get_or, get_or-append}
use lib.Seq.{get_or-append-add}
use Rattle.laws.specs.Joined.{joined}
use Rattle.laws.proofs.Tests.{at, passed}
use Rattle.laws.proofs.Joins.{joined_length, joined_alike, total_same}
use Rattle.layout.specs.Reading.{number_at}
use Rattle.rest.specs.Wings.{table_of}
use Rattle.rest.proofs.Passed.{tables_pass}
use Rattle.stretches.specs.Promises.{StretchesOf}
use Rattle.stretches.proofs.WholeList.{stretches_of, two_each}
use Rattle.sheet.specs.Sheet.{rows_in}
use Rattle.sheet.specs.Promises.{offset_told, rows_told, rows_told_before, stretches_told, SheetOf}
use Rattle.sheet.proofs.Pairs.{pair_at, pairs_joined}
use Rattle.content.specs.Content.{year_agrees, content_agrees}
use Rattle.content.proofs.Calendars.{first_at, days_at, list, CalendarsYear}
use Rattle.content.proofs.OfYears.{year_same, year_read}
use Rattle.content.proofs.OneList.{one_list}

-- Entries that are put together two by two.
module _ (f g : ℕ → ℕ) where
  abbrev pair : ℕ → List ℕ
  pair k = f k ∷ g k ∷ []

  pairs_long : (n : ℕ) → length (joined pair n) ≡ 2 * n
  pairs_long n = joined_length pair n ∙ total_same _ 2 n (λ k p. refl)

  pair_got : (n k : ℕ) → k < n → (get_or (joined pair n) (2 * k) 0 ≡ f k) × (get_or (joined pair n) (2 * k + 1) 0 ≡ g k)
  unfolding joined
  pair_got zero k p = absurd (omega arith)
  pair_got (suc n) k p =
      by_cases (ℕ_discrete k n)
      (λ q.
      let l = joined pair n in
      let first : 2 * n ≡ length l + 0 = omega (arith, pairs_long n) in
      let second : length l + 0 + 1 ≡ length l + 1 = omega arith in
      rw (q, first, second, get_or-append-add l (pair n) 0 0, get_or-append-add l (pair n) 1 0) (refl, refl))
      (λ q.
      let l = joined pair n in
      let long = pairs_long n in
      rw (get_or-append l (pair n) 0 (2 * k) (omega arith), get_or-append l (pair n) 0 (2 * k + 1) (omega arith)) (pair_got n k (omega arith)))

module _ (wing h years : ℕ) (bytes : List ℕ) where
  module _ (from : 1 ≤ h) (to : h + years ≤ 10000) where
    its_stretches : (i : ℕ) → i < years → StretchesOf (table_of wing) (h + i) (list wing h i)
    its_stretches i p = stretches_of (table_of wing) (tables_pass wing) (h + i) (omega arith) (omega arith)

    -- A sheet tells each year so, since the year has one list of stretches.
    pub sheet_tells : SheetOf wing h years bytes → (i : ℕ) → i < years → CalendarsYear wing h bytes i
    unfolding stretches_told rows_in
    sheet_tells s i p =
        let n = rows_told bytes i in
        let e = one_list (table_of wing) (h + i) (stretches_told bytes (offset_told bytes i) n) (list wing h i) (s.stretches i p) (its_stretches i p) in
        let two = rw e at (pairs_long (first_at bytes i) (days_at bytes i) n) in
        let many : n ≡ length (list wing h i) / 2 = omega (arith, two) in
        record {
          long = s.lengths i p;
          many = many;
          each = λ k q.
              let r : k < n = omega (arith, many) in
              let g = rw e at (pair_got (first_at bytes i) (days_at bytes i) n k r) in
              (sym g.0, (sym g.1, s.wings i k p r));
        }

    pub sheet_agrees : SheetOf wing h years bytes → content_agrees wing bytes h years ≡ true
    unfolding content_agrees
    sheet_agrees s = passed 0 years (λ i. year_agrees wing bytes i (h + i)) (λ i l u. year_same wing h bytes i (sheet_tells s i (omega arith)))

    -- Where the content agrees, bytes that header and index make a sheet are one of the wing.
    pub agrees_sheet :
        number_at bytes 0 2 ≡ years → number_at bytes 2 2 ≡ h → number_at bytes 4 4 ≡ rows_told_before bytes years →
        number_at bytes 8 4 ≡ 16 → number_at bytes 12 4 ≡ 16 + 8 * years → length bytes ≡ 16 + 8 * years + 6 * rows_told_before bytes years →
        ((i : ℕ) → i < years → offset_told bytes i ≡ 16 + 8 * years + 6 * rows_told_before bytes i) →
        content_agrees wing bytes h years ≡ true → SheetOf wing h years bytes
    unfolding content_agrees stretches_told rows_in
    agrees_sheet years_told_is first_told_is rows_told_is index_offset_is rows_offset_is all offsets e =
        let told : (i : ℕ) → i < years → CalendarsYear wing h bytes i = λ i p. year_read wing h bytes i (at 0 years (λ i. year_agrees wing bytes i (h + i)) e i (omega arith) (omega arith)) in
        record {
          years_told_is = years_told_is;
          first_told_is = first_told_is;
          rows_told_is = rows_told_is;
          index_offset_is = index_offset_is;
          rows_offset_is = rows_offset_is;
          all = all;
          offsets = offsets;
          lengths = λ i p. (told i p).long;
          stretches = λ i p.
              let t = told i p in
              let same =
              joined_alike (pair (first_at bytes i) (days_at bytes i)) (pair_at (list wing h i)) (rows_in wing (h + i)) (λ k q. let r = t.each k q in rw (r.0, r.1.0))
              ∙ pairs_joined (list wing h i) (two_each (table_of wing) (tables_pass wing) (h + i))
              in
              rw (t.many, same) (its_stretches i p);
          wings = λ i k p q. let t = told i p in (t.each k (rw t.many at q)).1.1;
        }
