-- How many stretches a year has hangs on its kind alone, so that the checker goes through the years once and adds up those
-- of a hundred years at a time.
use mathlib.Core.Path.{◌≡◌, refl, sym, ◌∙◌}
use mathlib.Core.Bool.{Bool, true, false, ◌&&◌, cond}
use mathlib.Core.List.{List, [], ◌∷◌}
use mathlib.Core.Logic.{by_cases}
use Prim.Native.Nat.{ℕ, zero, suc, ◌+◌, ◌*◌, ◌-◌, ◌≤◌, ◌<◌}
use native.Mathlib.Decide.{dec_le}
use native.Mathlib.Omega.{arith}
use borrow.Author.Tests.{eqb-true}
use lib.Dec.{eqb}
use lib.ListN.{length, drop, take, get_or}
use Rattle.laws.specs.Begun.{begun}
use Rattle.laws.specs.Joined.{total}
use Rattle.laws.specs.Runs.{each_of, place_in}
use Rattle.laws.proofs.Tests.{and_left, and_right}
use Rattle.laws.proofs.Joins.{total_alike, total_split, total_grows}
use Rattle.days.specs.Weekday.{weekday}
use Rattle.molad.specs.Years.{InYears, last_year}
use Rattle.newyear.specs.NewYear.{year_length}
use Rattle.newyear.specs.Kinds.{kind_code, every_kind, kind_of}
use Rattle.newyear.proofs.Quick.{quick, new_year_quick}
use Rattle.newyear.proofs.Lengths.{year_passes}
use Rattle.hebrew.specs.Months.{month_length, days_before}
use Rattle.hebrew.specs.Dates.{month_of}
use Rattle.hebrew.specs.Steps.{year_date, tomorrow}
use Rattle.rest.specs.Table.{rest_table, guest_table}
use Rattle.rest.specs.Wings.{table_of}
use Rattle.rest.proofs.Passed.{tables_pass}
use Rattle.stretches.specs.Stretches.{stretch_rows}
use Rattle.stretches.proofs.OfKind.{entries, entries_of, long_by_kind}
use Rattle.counts.specs.Counts.{one_counts, guest_counts, count_of, count_in}
use Rattle.counts.specs.Promises.{count_from, most_count, most_from, Counted}
use Rattle.counts.proofs.Windows.{sum_of, sum_taken, slide, slide_tells}

abbrev by_code : ℕ → ℕ → ℕ
by_code wing = count_of (cond (eqb wing 1) one_counts guest_counts)

counts_right : (wing : ℕ) → every_kind (λ w len. eqb (entries_of (table_of wing) w len) (2 * by_code wing (kind_code w len))) ≡ true
unfolding table_of count_of place_in every_kind each_of entries tomorrow year_date month_of begun month_length days_before
counts_right wing = go (eqb wing 1)
  where
    go : (first : Bool) → every_kind (λ w len. eqb (entries_of (cond first rest_table guest_table) w len) (2 * count_of (cond first one_counts guest_counts) (kind_code w len))) ≡ true
    go true = refl
    go false = refl

listed : (wing h : ℕ) → InYears h → length (stretch_rows (table_of wing) h) ≡ 2 * count_in wing h
unfolding kind_of
listed wing h y =
    let t = year_passes h y.0 (omega (arith, y.1)) (λ w len. eqb (entries_of (table_of wing) w len) (2 * by_code wing (kind_code w len))) (counts_right wing) in
    long_by_kind (table_of wing) (tables_pass wing) h y ∙ eqb-true _ _ t

-- The kinds of the n years from year h on, whose New Year is day a.
unfoldable codes : ℕ → ℕ → ℕ → List ℕ
codes zero h a = []
codes (suc n) h a = let b = quick (h + 1) in kind_code (weekday a) (b - a) ∷ codes n (h + 1) b

codes_long : (n h a : ℕ) → length (codes n h a) ≡ n
unfolding codes
codes_long zero h a = refl
codes_long (suc n) h a = rw (codes_long n (h + 1) (quick (h + 1)))

code_at : (n h k : ℕ) → 1 ≤ h → k < n → get_or (codes n h (quick h)) k 0 ≡ kind_of (h + k)
unfolding codes kind_of year_length
code_at zero h k l p = absurd (omega arith)
code_at (suc n) h zero l p = let e : h + 0 ≡ h = omega arith in rw (e, new_year_quick h l, new_year_quick (h + 1) (omega arith))
code_at (suc n) h (suc k) l p = let e : h + suc k ≡ h + 1 + k = omega arith in rw e (code_at n (h + 1) k (omega arith) (omega arith))

-- Every hundred years of 1 to 9999, in both wings.
abbrev within : (ℕ → ℕ) → ℕ → List ℕ → Bool
within f most list = slide f most (sum_of f (take 100 list)) (drop 100 list) list

all_codes : List ℕ
all_codes = codes last_year 1 (quick 1)

both_within : (let list = all_codes in within (count_of one_counts) 5639 list && within (count_of guest_counts) 5547 list) ≡ true
unfolding all_codes slide sum_of count_of codes quick place_in
both_within = refl

module _ (wing : ℕ) where
  wing_within : within (by_code wing) (most_count wing) all_codes ≡ true
  wing_within = go (eqb wing 1)
    where
      go : (first : Bool) → within (count_of (cond first one_counts guest_counts)) (cond first 5639 5547) all_codes ≡ true
      go true = and_left _ _ both_within
      go false = and_right (within (count_of one_counts) 5639 all_codes) _ both_within

  -- What the codes of n years from year h on count, read off the list.
  by_codes : (n h k m : ℕ) → 1 ≤ h → k + m ≤ n → sum_of (by_code wing) (take m (drop k (codes n h (quick h)))) ≡ count_from wing (h + k) m
  by_codes n h k m l p =
      let f = by_code wing in
      sum_taken f (codes n h (quick h)) k m (omega (arith, codes_long n h (quick h)))
      ∙ total_alike _ _ m (λ i q. let e : h + (k + i) ≡ h + k + i = omega arith in rw (code_at n h (k + i) l (omega arith), e))

  hundred : (k : ℕ) → k + 100 ≤ last_year → count_from wing (1 + k) 100 ≤ most_count wing
  unfolding all_codes
  hundred k p =
      let f = by_code wing in
      let list = codes last_year 1 (quick 1) in
      rw (← by_codes last_year 1 k 100 (omega arith) p)
      (slide_tells f (most_count wing) list (sum_of f (take 100 list)) refl wing_within k (omega (arith, codes_long last_year 1 (quick 1))))

  -- The last years lie within the last hundred.
  later : (h n : ℕ) → 9900 ≤ h → h + n ≤ 10000 → count_from wing h n ≤ count_from wing 9900 100
  later h n l p =
      let d = h - 9900 in
      let f : ℕ → ℕ = λ k. count_in wing (9900 + k) in
      let same : count_from wing h n ≡ total (λ k. f (d + k)) n = total_alike _ _ n (λ k q. let e : h + k ≡ 9900 + (d + k) = omega arith in rw e) in
      omega (arith, same, total_split f d n, total_grows f (d + n) 100 (omega arith))

  most : (h n : ℕ) → 1 ≤ h → n ≤ 100 → h + n ≤ 10000 → count_from wing h n ≤ most_count wing
  most h n l u p =
      by_cases (dec_le h 9900)
      (λ q. let e : 1 + (h - 1) ≡ h = omega arith in omega (arith, total_grows (λ k. count_in wing (h + k)) n 100 u, rw e at (hundred (h - 1) (omega arith))))
      (λ q. omega (arith, later h n (omega arith) p, hundred 9899 (omega arith)))

  most_early : 1 ≤ most_from wing
  most_early = go (eqb wing 1)
    where
      go : (first : Bool) → 1 ≤ cond first 458 163
      go true = omega arith
      go false = omega arith

  most_counted : sum_of (by_code wing) (take 100 (drop 0 (codes 100 (most_from wing) (quick (most_from wing))))) ≡ most_count wing
  unfolding sum_of count_of codes quick place_in
  most_counted = go (eqb wing 1)
    where
      go :
          (first : Bool) → let from : ℕ = cond first 458 163 in
          sum_of (count_of (cond first one_counts guest_counts)) (take 100 (drop 0 (codes 100 from (quick from)))) ≡ cond first 5639 5547
      go true = refl
      go false = refl

  reached : count_from wing (most_from wing) 100 ≡ most_count wing
  reached =
      let e : most_from wing + 0 ≡ most_from wing = omega arith in
      rw e at (sym (by_codes 100 (most_from wing) 0 100 most_early (omega arith)) ∙ most_counted)

  pub counted : Counted wing
  counted = record { listed = listed wing; most = most; reached = reached }
