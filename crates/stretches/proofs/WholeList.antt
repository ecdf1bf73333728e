-- The list of a year holds every stretch that begins in the year and no other, rising, for any table that passes the check.
use mathlib.Core.Path.{◌≡◌, refl}
use mathlib.Core.Bool.{Bool, true, false, cond}
use mathlib.Core.List.{List, [], ◌∷◌, ◌++◌, append-nil}
use mathlib.Core.Logic.{by_cases, ◌⊎◌, inl, inr, ⊎_elim}
use Prim.Native.Nat.{ℕ, zero, suc, ◌+◌, ◌*◌, ◌-◌, ◌/◌, ◌%◌, ◌≤◌, ◌<◌}
use native.Mathlib.Omega.{arith}
use native.Mathlib.Decide.{ℕ_discrete}
use borrow.Author.Tests.{not-true}
use lib.ListN.{length}
use Rattle.laws.specs.Search.{Run, seek_not}
use Rattle.laws.proofs.Tests.{and_left, and_right}
use Rattle.laws.proofs.Found.{run_start_lem, run_ends}
use Rattle.molad.specs.Years.{last_year}
use Rattle.newyear.specs.NewYear.{new_year, year_length}
use Rattle.newyear.proofs.Lengths.{rises}
use Rattle.rest.specs.Table.{rest_day}
use Rattle.rest.specs.Check.{passes}
use Rattle.rest.proofs.RestOfYear.{rest_in_range}
use Rattle.stretch.specs.Stretches.{days_from}
use Rattle.stretches.specs.Stretches.{begins, row_at, rows, stretch_rows}
use Rattle.stretches.specs.Promises.{Listed, here, there, FirstDaysRise, StretchesOf}
use Rattle.stretch.proofs.Theorems.{ends_in_range, around}

-- The entries come in pairs.
pub data Pairs : List ℕ → Type 0 where
  none : Pairs []
  more : {a b : ℕ} {l : List ℕ} → Pairs l → Pairs (a ∷ b ∷ l)

in_first : {f c : ℕ} {l : List ℕ} (m : List ℕ) → Listed f c l → Listed f c (l ++ m)
in_first m here = here
in_first m (there r) = there (in_first m r)

in_second : {f c : ℕ} {l m : List ℕ} → Pairs l → Listed f c m → Listed f c (l ++ m)
in_second none r = r
in_second (more p) r = there (in_second p r)

in_either : {f c : ℕ} {l : List ℕ} (m : List ℕ) → Pairs l → Listed f c (l ++ m) → Listed f c l ⊎ Listed f c m
in_either m none r = inr r
in_either m (more p) here = inl here
in_either m (more p) (there r) = ⊎_elim (λ x. inl (there x)) (λ x. inr x) (in_either m p r)

pub both : {l m : List ℕ} → Pairs l → Pairs m → Pairs (l ++ m)
both none q = q
both (more p) q = more (both p q)

short : {f c : ℕ} {l : List ℕ} → Listed f c l → 2 ≤ length l
short here = omega arith
short (there r) = omega arith

even : {l : List ℕ} → Pairs l → length l % 2 ≡ 0
even none = refl
even (more p) = omega (arith, even p)

-- A row of the list made at one day.
pub one_row : (b : Bool) (x y : ℕ) → Pairs (cond b (x ∷ y ∷ []) [])
one_row true x y = more none
one_row false x y = none

only_row : (f c x y : ℕ) → Listed f c (x ∷ y ∷ []) → (f ≡ x) × (c ≡ y)
only_row f c x y here = (refl, refl)
only_row f c x y (there r) = elim r [ ]

-- Each first day lies below n.
abbrev Below : ℕ → List ℕ → Type 0
Below n [] = Unit {0}
Below n (f ∷ []) = ⊥
Below n (f ∷ c ∷ l) = (f < n) × Below n l

rising_more : {l : List ℕ} (from n c : ℕ) → Pairs l → from ≤ n → FirstDaysRise from l → Below n l → FirstDaysRise from (l ++ (n ∷ c ∷ []))
rising_more from n c none p r b = (p, tt)
rising_more from n c (more q) p r b = (r.0, rising_more _ n c q (omega (arith, b.0)) r.1 b.1)

below_more : {l : List ℕ} (n m c : ℕ) → Pairs l → n < m → Below n l → Below m (l ++ (n ∷ c ∷ []))
below_more n m c none p b = (p, tt)
below_more n m c (more q) p b = (omega (arith, b.0), below_more n m c q p b.1)

below_later : {l : List ℕ} (n m : ℕ) → Pairs l → n ≤ m → Below n l → Below m l
below_later n m none p b = tt
below_later n m (more q) p b = (omega (arith, b.0), below_later n m q p b.1)

module _ (table : List ℕ) (ok : passes table ≡ true) where
  abbrev rest : ℕ → Bool
  rest = rest_day table

  in_pairs : (j k : ℕ) → Pairs (rows rest j k)
  unfolding rows row_at
  in_pairs j zero = none
  in_pairs j (suc k) = both (in_pairs j k) (one_row (begins rest (j + k)) _ _)

  -- A stretch begins on its first day, and is a row of that day.
  pub first_row : (f c : ℕ) → Run rest f c → row_at rest f ≡ f ∷ c ∷ []
  unfolding row_at begins
  first_row f c r =
      let a = r.passes f (omega arith) (omega (arith, r.some)) in
      let i = rest_in_range table f a in
      let e = run_ends rest f c f (days_from f) r (omega arith) (omega (arith, r.some)) (omega arith) (omega (arith, ends_in_range table ok f c r)) in
      let n : f + c - f ≡ c = omega arith in
      rw (a, r.before, e, n)

  -- And a row of a day is a stretch that begins on it.
  begun_run : (d : ℕ) → begins rest d ≡ true → Run rest d (seek_not rest (days_from d) d - d)
  unfolding begins
  begun_run d e =
      let a = and_left _ _ e in
      let i = rest_in_range table d a in
      let s = run_start_lem rest d d (omega arith) (λ k p q. absurd (omega arith)) (omega arith) (not-true _ (and_right (rest d) _ e)) in
      rw s at (around table ok d a).1

  holds_all : (j k f c : ℕ) → Run rest f c → j ≤ f → f < j + k → Listed f c (rows rest j k)
  unfolding rows
  holds_all j zero f c r l u = absurd (omega arith)
  holds_all j (suc k) f c r l u =
      by_cases (ℕ_discrete f (j + k))
      (λ q. in_second (in_pairs j k) (rw (← q, first_row f c r) here))
      (λ q. in_first (row_at rest (j + k)) (holds_all j k f c r l (omega arith)))

  made : (d f c : ℕ) → Listed f c (row_at rest d) → Run rest f c × (f ≡ d)
  unfolding row_at
  made d f c x = go (begins rest d) refl x
    where
      go : (b : Bool) → begins rest d ≡ b → Listed f c (cond b (d ∷ (seek_not rest (days_from d) d - d) ∷ []) []) → Run rest f c × (f ≡ d)
      go true e x = let o = only_row f c _ _ x in (rw (o.0, o.1) (begun_run d e), o.0)
      go false e x = absurd (omega (arith, short x))

  holds_only : (j k f c : ℕ) → Listed f c (rows rest j k) → Run rest f c × ((j ≤ f) × (f < j + k))
  unfolding rows
  holds_only j zero f c r = absurd (omega (arith, short r))
  holds_only j (suc k) f c r =
      ⊎_elim
      (λ x. let h = holds_only j k f c x in (h.0, (h.1.0, omega arith)))
      (λ x. let m = made (j + k) f c x in (m.0, omega (arith, m.1)))
      (in_either (row_at rest (j + k)) (in_pairs j k) r)

  rise : (j k : ℕ) → FirstDaysRise j (rows rest j k) × Below (j + k) (rows rest j k)
  unfolding rows row_at
  rise j zero = (tt, tt)
  rise j (suc k) = go (begins rest (j + k)) _ (rise j k)
    where
      l : List ℕ
      l = rows rest j k

      go : (b : Bool) (c : ℕ) → FirstDaysRise j l × Below (j + k) l → FirstDaysRise j (l ++ cond b ((j + k) ∷ c ∷ []) []) × Below (j + suc k) (l ++ cond b ((j + k) ∷ c ∷ []) [])
      go true c r =
          let p = in_pairs j k in
          (rising_more j (j + k) c p (omega arith) r.0 r.1, below_more (j + k) (j + suc k) c p (omega arith) r.1)
      go false c r = rw append-nil (r.0, below_later (j + k) (j + suc k) (in_pairs j k) (omega arith) r.1)

  pub stretches_of : (h : ℕ) → 1 ≤ h → h ≤ last_year → StretchesOf table h (stretch_rows table h)
  unfolding stretch_rows year_length
  stretches_of h l u =
      let up = rises h l (omega arith) in
      record {
        every = λ f c r a b. holds_all (new_year h) (year_length h) f c r a (omega arith);
        only = λ f c r. let t = holds_only (new_year h) (year_length h) f c r in (t.0, (t.1.0, omega (arith, t.1.1)));
        rising = (rise (new_year h) (year_length h)).0;
      }

  -- The entries come in pairs: twice the stretches.
  pub two_each : (h : ℕ) → 2 * (length (stretch_rows table h) / 2) ≡ length (stretch_rows table h)
  unfolding stretch_rows
  two_each h = omega (arith, even (in_pairs (new_year h) (year_length h)))
