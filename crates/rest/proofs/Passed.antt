-- Both tables pass the check. It is tested by walking through a year from date to date, as the code does, so that it computes
-- at once.
use mathlib.Core.Path.{◌≡◌, refl, sym, ◌∙◌}
use mathlib.Core.Bool.{Bool, true, ◌&&◌, not, and_assoc}
use mathlib.Core.List.{List, [], ◌∷◌}
use Prim.Native.Nat.{ℕ, zero, suc, ◌+◌, ◌-◌, ◌/◌, ◌%◌, ◌≤◌}
use native.Mathlib.Omega.{arith}
use borrow.Author.Tests.{leb-true}
use lib.Dec.{leb}
use Rattle.laws.specs.Begun.{begun}
use Rattle.laws.specs.Runs.{every, each_of, elem}
use Rattle.laws.proofs.Tests.{and_left, and_right, all, facts}
use Rattle.newyear.specs.Kinds.{lengths, IsLength, kinds, every_kind}
use Rattle.hebrew.specs.Months.{month_length, days_before}
use Rattle.hebrew.specs.Dates.{month_of}
use Rattle.hebrew.specs.Rows.{row, row_good}
use Rattle.hebrew.specs.Steps.{year_date, tomorrow}
use Rattle.hebrew.specs.declared.YearDate.{YearDate}
use Rattle.hebrew.proofs.Walked.{tomorrow_is}
use Rattle.rest.specs.Table.{rest_table, guest_table}
use Rattle.rest.specs.Wings.{table_of}
use Rattle.rest.specs.Steps.{rest_on, rest_at}
use Rattle.rest.specs.Check.{rows_rise, four, passes_in, passes}
use Rattle.rest.proofs.Tables.{of_both}

-- The n days from this date on, where a, b and c tell of the three days before them: no four neighbouring days are all rest
-- days, and the last day is none.
walked : List ℕ → ℕ → ℕ → ℕ → YearDate → Bool → Bool → Bool → Bool
walked table w len zero date a b c = not c
walked table w len (suc n) date a b c =
    let d = rest_on table w date in
    not (a && b && c && d) && walked table w len n (tomorrow len date) b c d

module _ (table : List ℕ) (w len : ℕ) (k : IsLength len) where
  abbrev rest : ℕ → Bool
  rest = rest_at table w len

  walked_is :
      (n x : ℕ) → x + 3 + n ≤ len →
      walked table w len n (year_date len (x + 3)) (rest x) (rest (x + 1)) (rest (x + 2))
      ≡ every x n (λ x. not (four rest x)) && not (rest (x + n + 2))
  unfolding walked every rest_at
  walked_is zero x p = let e : x + 0 ≡ x = omega arith in rw e
  walked_is (suc n) x p =
      let e : x + suc n ≡ suc x + n = omega arith in
      let f : x + 3 + 1 ≡ suc x + 3 = omega arith in
      let a : x + 1 ≡ suc x = omega arith in
      let b : x + 2 ≡ suc x + 1 = omega arith in
      let c : x + 3 ≡ suc x + 2 = omega arith in
      rw (tomorrow_is len (x + 3) k (omega arith), f, a, b, c, e, walked_is n (suc x) (omega arith))
      (sym (and_assoc (not (rest x && rest (suc x) && rest (suc x + 1) && rest (suc x + 2))) (every (suc x) n (λ x. not (four rest x))) (not (rest (suc x + n + 2)))))

  -- What the check asks of the days of a year of one kind.
  walk_passes :
      walked table w len (len - 3) (year_date len 3) (rest 0) (rest 1) (rest 2) ≡ true →
      (not (rest (len - 1)) ≡ true) × (every 0 (len - 3) (λ x. not (four rest x)) ≡ true)
  walk_passes t =
      let e : 0 + (len - 3) + 2 ≡ len - 1 = omega (arith, k.short) in
      let q : every 0 (len - 3) (λ x. not (four rest x)) && not (rest (len - 1)) ≡ true = rw e at (sym (walked_is (len - 3) 0 (omega (arith, k.short))) ∙ t) in
      (and_right (every 0 (len - 3) (λ x. not (four rest x))) _ q, and_left _ _ q)

-- The length is one of the six, the rows are dates of the year with 1 Tishri among them, and the walk passes.
tests : List ℕ → ℕ → ℕ → List Bool
tests table w len =
    elem len lengths ∷ leb 353 len ∷ leb len 385 ∷ each_of table (row_good len) ∷ elem (row 1 1) table
    ∷ walked table w len (len - 3) (year_date len 3) (rest_at table w len 0) (rest_at table w len 1) (rest_at table w len 2) ∷ []

passed : (table : List ℕ) (w len : ℕ) → all (tests table w len) ≡ true → passes_in table len (rest_at table w len) ≡ true
unfolding tests passes_in
passed table w len e =
    let t = facts (tests table w len) e in
    let k : IsLength len = record { among = t.0; short = leb-true _ _ t.1.0; long = leb-true _ _ t.1.1.0 } in
    let q = walk_passes table w len k t.1.1.1.1.1.0 in
    rw (t.1.1.1.0, t.1.1.1.1.0, q.0, q.1)

each_implies : (l : List ℕ) (p q : ℕ → Bool) → ((x : ℕ) → p x ≡ true → q x ≡ true) → each_of l p ≡ true → each_of l q ≡ true
unfolding each_of
each_implies [] p q f e = refl
each_implies (x ∷ l) p q f e = rw (f x (and_left _ _ e), each_implies l p q f (and_right (p x) _ e))

by_walk : (table : List ℕ) → rows_rise table ≡ true → every_kind (λ w len. all (tests table w len)) ≡ true → passes table ≡ true
unfolding passes every_kind
by_walk table r e = rw (r, each_implies kinds _ _ (λ k. passed table (k / 1000) (k % 1000)) e)

pub tables_pass : (wing : ℕ) → passes (table_of wing) ≡ true
unfolding rows_rise every_kind each_of tests row_good walked tomorrow rest_at year_date month_of begun month_length days_before
tables_pass = of_both (λ table. passes table ≡ true) (by_walk rest_table refl refl) (by_walk guest_table refl refl)
