-- The fast that is found ahead of a day is the next one; and there is one exactly up to the day fifty days before the range's end.
use mathlib.Core.Path.{◌≡◌, refl, ap}
use mathlib.Core.Bool.{Bool, true, false, cond, or-true}
use mathlib.Core.List.{List, [], ◌∷◌}
use mathlib.Core.Logic.{◌⊎◌, inl, inr, ⊎_elim, by_cases}
use Prim.Native.Nat.{ℕ, ◌+◌, ◌-◌, ◌/◌, ◌≤◌, ◌<◌}
use native.Mathlib.Omega.{arith}
use native.Mathlib.Decide.{ℕ_discrete, dec_lt}
use borrow.Author.Tests.{eq-eqb, ne_eqb, leb-true, leb-false, ltb-true, ltb-false}
use lib.Dec.{eqb, leb, ltb}
use Rattle.laws.specs.Runs.{elem}
use Rattle.days.specs.Range.{last_day, InRange}
use Rattle.molad.specs.Years.{last_year, InYears}
use Rattle.newyear.specs.NewYear.{new_year, year_length, year_of, InYear}
use Rattle.newyear.proofs.Quick.{quick, new_year_quick}
use Rattle.newyear.proofs.Rise.{rise_le}
use Rattle.newyear.proofs.YearOf.{held, last}
use Rattle.hebrew.specs.Months.{month_length, days_before}
use Rattle.hebrew.specs.Dates.{day_number}
use Rattle.hebrew.specs.Rows.{row}
use Rattle.lists.specs.Lists.{days_of, DaysRise}
use Rattle.fasts.specs.Fasts.{fast_table, kept_on, fast_day, fast_days}
use Rattle.fasts.specs.Ahead.{FastOn, no_fast, ahead_of, ahead_in, fast_ahead}
use Rattle.fasts.specs.Promises.{FastTold}
use Rattle.fasts.specs.declared.Ahead.{Ahead}
use Rattle.fasts.proofs.Kept.{of_five, fast_in_year, fasts_rise}

-- The five rise.
pub five_rise : (h : ℕ) → InYears h → DaysRise (fast_days fast_table h)
unfolding days_of
five_rise h y =
    let up = fasts_rise h y in (
      up (row 1 3) (row 4 10) refl refl (omega arith),
      (up (row 4 10) (row 7 13) refl refl (omega arith), (up (row 7 13) (row 11 17) refl refl (omega arith), (up (row 11 17) (row 12 9) refl refl (omega arith), tt))),
    )

-- The first of fasts that rise comes before the others.
first_before : (h r s : ℕ) (table : List ℕ) → DaysRise (fast_days (r ∷ table) h) → elem s table ≡ true → fast_day h r < fast_day h s
unfolding days_of
first_before h r s [] up e = absurd (let z : ◌≡◌ {A = ℕ} 0 1 = cc in omega arith)
first_before h r s (t ∷ table) up e =
    by_cases (ℕ_discrete s t) (λ q. rw q up.0) (λ q. omega (arith, up.0, first_before h t s table up.1 (rw (ne_eqb s t q) at e)))

others_rise : (h r : ℕ) (table : List ℕ) → DaysRise (fast_days (r ∷ table) h) → DaysRise (fast_days table h)
unfolding days_of
others_rise h r [] up = tt
others_rise h r (s ∷ table) up = up.1

-- Going through a table whose fasts rise comes to the first that is not past, or to none where all are past.
gone_through :
    (j h : ℕ) (P : Ahead → Type 0) (table : List ℕ) → DaysRise (fast_days table h) →
    ((r : ℕ) → elem r table ≡ true → j ≤ fast_day h r → ((s : ℕ) → elem s table ≡ true → j ≤ fast_day h s → fast_day h r ≤ fast_day h s) → P (ahead_of j (r / 100) (fast_day h r))) →
    (((s : ℕ) → elem s table ≡ true → fast_day h s < j) → P no_fast) →
    P (ahead_in (fast_day h) j table)
unfolding ahead_in
gone_through j h P [] up found past = past (λ s e. absurd (let z : ◌≡◌ {A = ℕ} 0 1 = cc in omega arith))
gone_through j h P (r ∷ table) up found past =
    go (leb j (fast_day h r)) refl (λ l.
    gone_through j h P table (others_rise h r table up)
    (λ s f p least. found s (rw (f, or-true) refl) p (λ t g q. least t (others t (λ z. omega (arith, ap (fast_day h) z)) g) q))
    (λ all. past (λ s f. by_cases (ℕ_discrete s r) (λ q. rw q l) (λ q. all s (others s q f)))))
  where
    others : (s : ℕ) → ¬ (s ≡ r) → elem s (r ∷ table) ≡ true → elem s table ≡ true
    others s n e = rw (ne_eqb s r n) at e

    go :
        (b : Bool) → leb j (fast_day h r) ≡ b → (fast_day h r < j → P (ahead_in (fast_day h) j table)) →
        P (cond b (ahead_of j (r / 100) (fast_day h r)) (ahead_in (fast_day h) j table))
    go true e rest =
        found r (rw (eq-eqb r r refl) refl) (leb-true _ _ e) (λ s f p.
        by_cases (ℕ_discrete s r) (λ q. rw q (omega arith)) (λ q. omega (arith, first_before h r s table up (others s q f))))
    go false e rest = rest (leb-false _ _ e)

-- A fast lies in its year.
pub in_its_year : (code m : ℕ) (f : FastOn code m) → InYear m f.year
in_its_year code m f = rw f.kept at (fast_in_year f.year f.of_years f.fast f.in_table)

-- Day n is the next fast for day j, the one of this month code.
pub record NextFast (j code n : ℕ) : Type 0 where
  pub a_fast : FastOn code n
  pub not_past : j ≤ n
  pub nearest : (other m : ℕ) → FastOn other m → j ≤ m → n ≤ m

-- It is if those of earlier years are past, and it is the first of its year that is not.
next_is :
    (j g r : ℕ) → InYears g → elem r fast_table ≡ true → j ≤ fast_day g r →
    ((code m : ℕ) (f : FastOn code m) → f.year < g → m < j) →
    ((s : ℕ) → elem s fast_table ≡ true → j ≤ fast_day g s → fast_day g r ≤ fast_day g s) →
    NextFast j (r / 100) (fast_day g r)
next_is j g r y e p earlier least =
    record {
      a_fast = record { year = g; of_years = y; fast = r; in_table = e; of_month = refl; kept = refl };
      not_past = p;
      nearest =
          λ code m f q.
          by_cases (dec_lt f.year g)
          (λ l. absurd (omega (arith, earlier code m f l)))
          (λ l.
          by_cases (ℕ_discrete f.year g)
          (λ s. let d : fast_day g f.fast ≡ m = rw (← s) f.kept in rw (← d) (least f.fast f.in_table (rw d q)))
          (λ s.
          omega (arith, (fast_in_year g y r e).before, rise_le (g + 1) f.year (omega arith) (omega arith) (omega (arith, f.of_years)), (in_its_year code m f).from)));
    }

-- Day j has this fast ahead, or none is left.
Found : ℕ → Ahead → Type 0
Found j f = ((f.none ≡ 0) × NextFast j f.month (j + f.left)) ⊎ ((f ≡ no_fast) × ((code m : ℕ) → FastOn code m → m < j))

next_found : (j g r : ℕ) → j ≤ fast_day g r → NextFast j (r / 100) (fast_day g r) → Found j (ahead_of j (r / 100) (fast_day g r))
unfolding Found
next_found j g r p n = let e : j + (fast_day g r - j) ≡ fast_day g r = omega arith in inl (refl, rw e n)

module _ (j : ℕ) (i : InRange j) where
  abbrev h : ℕ
  h = year_of j

  of_day : InYear j h
  of_day = held j i.0 i.1

  years : InYears h
  years = (of_day.low, of_day.high)

  -- Those of earlier years are past.
  earlier : (code m : ℕ) (f : FastOn code m) → f.year < h → m < j
  earlier code m f l =
      omega (arith, (in_its_year code m f).before, rise_le (f.year + 1) h (omega arith) (omega arith) (omega (arith, years)), of_day.from)

  -- Where those of the year are past too, it is the next year's first.
  module _ (past : (s : ℕ) → elem s fast_table ≡ true → fast_day h s < j) where
    all_past : (code m : ℕ) (f : FastOn code m) → f.year < h + 1 → m < j
    all_past code m f l =
        by_cases (ℕ_discrete f.year h)
        (λ q. let d : fast_day h f.fast ≡ m = rw (← q) f.kept in rw (← d) (past f.fast f.in_table))
        (λ q. earlier code m f (omega arith))

    tishri_first : (g : ℕ) → InYears g → (s : ℕ) → elem s fast_table ≡ true → fast_day g (row 1 3) ≤ fast_day g s
    tishri_first g y s e =
        by_cases (ℕ_discrete s (row 1 3))
        (λ q. rw q (omega arith))
        (λ q. omega (arith, first_before g (row 1 3) s (row 4 10 ∷ row 7 13 ∷ row 11 17 ∷ row 12 9 ∷ []) (five_rise g y) (rw (ne_eqb s (row 1 3) q) at e)))

    next_year : (b : Bool) → ltb h last_year ≡ b → Found j (cond b (ahead_of j 1 (fast_day (h + 1) (row 1 3))) no_fast)
    unfolding Found
    next_year true e =
        let y : InYears (h + 1) = (omega arith, omega (arith, ltb-true h last_year e)) in
        let p : j ≤ fast_day (h + 1) (row 1 3) = omega (arith, of_day.before, (fast_in_year (h + 1) y (row 1 3) refl).from) in
        next_found j (h + 1) (row 1 3) p (next_is j (h + 1) (row 1 3) y refl p all_past (λ s f q. tishri_first (h + 1) y s f))
    next_year false e = inr (refl, λ code m f. all_past code m f (omega (arith, f.of_years, ltb-false h last_year e)))

  found : Found j (fast_ahead j)
  unfolding fast_ahead Found
  found =
      gone_through j h
      (λ (own : Ahead). Found j (cond (eqb own.none 0) own (cond (ltb h last_year) (ahead_of j 1 (fast_day (h + 1) (row 1 3))) no_fast)))
      fast_table (five_rise h years)
      (λ r e p least. next_found j h r p (next_is j h r years e p earlier least))
      (λ past. next_year past (ltb h last_year) refl)

-- The last fast of all is 9 Av 9999, fifty days before the range's end.
module _ where
  n9999 : new_year 9999 ≡ 3999723
  unfolding quick
  n9999 = new_year_quick 9999 (omega arith)

  last_day_lem : fast_day 9999 (row 12 9) ≡ last_day - 50
  unfolding fast_day kept_on day_number days_before month_length year_length
  last_day_lem = rw (last, n9999)

  before_last : (r : ℕ) → elem r fast_table ≡ true → r / 100 < 12 → fast_day 9999 r ≤ last_day - 50
  before_last r e l = omega (arith, last_day_lem, fasts_rise 9999 (omega arith, omega arith) r (row 12 9) e refl l)

  last_of_five : (s : ℕ) → elem s fast_table ≡ true → fast_day 9999 s ≤ last_day - 50
  last_of_five =
      of_five (λ (s : ℕ). fast_day 9999 s ≤ last_day - 50)
      (before_last (row 1 3) refl (omega arith))
      (before_last (row 4 10) refl (omega arith))
      (before_last (row 7 13) refl (omega arith))
      (before_last (row 11 17) refl (omega arith))
      (omega (arith, last_day_lem))

  pub none_later : (code m : ℕ) → FastOn code m → m ≤ last_day - 50
  none_later code m f =
      by_cases (ℕ_discrete f.year 9999)
      (λ q. let d : fast_day 9999 f.fast ≡ m = rw (← q) f.kept in rw (← d) (last_of_five f.fast f.in_table))
      (λ q.
      omega (arith, (in_its_year code m f).before, n9999, rise_le (f.year + 1) 9999 (omega arith) (omega (arith, f.of_years)) (omega arith)))

  last_fast_lem : FastOn 12 (last_day - 50)
  last_fast_lem = record { year = 9999; of_years = (omega arith, omega arith); fast = row 12 9; in_table = refl; of_month = refl; kept = last_day_lem }

pub told : (j : ℕ) → InRange j → FastTold j (fast_ahead j)
unfolding Found
told j i =
    record {
      ahead = λ l. ⊎_elim (λ n. (n.0, (n.1.a_fast, n.1.nearest))) (λ none. absurd (omega (arith, none.1 12 (last_day - 50) last_fast_lem))) (found j i);
      last_fifty =
          λ l.
          ⊎_elim
          (λ n. absurd (omega (arith, none_later _ _ n.1.a_fast)))
          (λ none. (ap (λ (f : Ahead). f.none) none.0, (ap (λ (f : Ahead). f.month) none.0, (ap (λ (f : Ahead). f.left) none.0, none.1))))
          (found j i);
    }
