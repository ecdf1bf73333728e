-- A record that was worked out afresh, moved, is the one worked out afresh for the neighbouring day.
use mathlib.Core.Path.{◌≡◌, refl, sym, subst, ◌∙◌}
use mathlib.Core.Bool.{Bool, true, false, not, ◌||◌, cond, false≢true}
use mathlib.Core.Logic.{◌⊎◌, inl, inr, ⊎_elim}
use Prim.Native.Nat.{ℕ, ◌+◌, ◌-◌, ◌<◌}
use native.Mathlib.Omega.{arith}
use borrow.Author.Tests.{eqb-true, ltb-true, leb-true, not-true}
use lib.Dec.{eqb, leb, ltb}
use Rattle.laws.proofs.Tests.{and_left, and_right}
use Rattle.laws.proofs.Promises.{ranged, let_pass}
use Rattle.days.specs.Range.{first_day, last_day, InRange}
use Rattle.newyear.specs.NewYear.{new_year}
use Rattle.hebrew.proofs.Neighbours.{date_on_lem, date_before}
use Rattle.fasts.specs.Ahead.{fast_ahead}
use Rattle.fasts.proofs.Found.{NextFast}
use Rattle.fasts.proofs.Neighbours.{ahead_is, next_of, still_next, already_next}
use Rattle.rest.specs.Table.{is_rest, rest_day}
use Rattle.rest.specs.Wings.{IsWing, table_of}
use Rattle.stretch.specs.Stretches.{StretchFor}
use Rattle.stretch.specs.Answers.{wing_stretch}
use Rattle.stretch.proofs.Answers.{stretch_promised}
use Rattle.stretch.proofs.Neighbours.{stretch_is, still_for, already_for}
use Rattle.record.specs.Record.{dated_of, afresh}
use Rattle.record.specs.Steps.{same_month_on, date_on, same_month_back, date_back, has_stretch, lasts, kept, stretch_onward, rests, kept_back, stretch_backward, has_fast, fast_kept_on, fast_onward, fast_kept_back, fast_backward, record_on, record_back}
use Rattle.record.specs.declared.DayRecord.{DayRecord}
use Rattle.record.proofs.Told.{afresh_told}

-- A flag of 0 tells that nothing was refused.
unflagged : (n : ℕ) → eqb (cond (eqb n 0) 0 1) 0 ≡ true → n ≡ 0
unflagged n e = go (eqb n 0) refl e
  where
    go : (b : Bool) → eqb n 0 ≡ b → eqb (cond b 0 1) 0 ≡ true → n ≡ 0
    go true q e = eqb-true n 0 q
    go false q e = absurd (false≢true e)

-- One of two tests passes, or the other fails.
one_tells : (a b : Bool) → a || not b ≡ true → (b ≡ false) ⊎ (a ≡ true)
one_tells true b e = inr refl
one_tells false true e = absurd (false≢true e)
one_tells false false e = inl refl

module _ (wing j : ℕ) (w : IsWing wing) (i : InRange j) where
  abbrev r : DayRecord
  r = afresh wing j

  -- What the record's stretch tells, if it lasts.
  told : (k : ℕ) → lasts r k ≡ true → StretchFor (table_of wing) j r.first r.length × (k < r.first + r.length)
  unfolding lasts afresh
  told k e =
      let z = unflagged (wing_stretch wing j).refusal (and_left (eqb r.none 0) _ (and_left (has_stretch r) _ e)) in
      let p = stretch_promised wing j in ((p.values (p.done.0 z)).0, ltb-true _ _ (and_right (has_stretch r) _ e))

  date_moves_on : date_on r ≡ dated_of (j + 1)
  unfolding date_on dated_of afresh
  date_moves_on = go (same_month_on r) refl
    where
      go :
          (b : Bool) → same_month_on r ≡ b →
          cond b (record { year = r.year; month = r.month; date = r.date + 1; remaining = r.remaining - 1 }) (dated_of (j + 1)) ≡ dated_of (j + 1)
      go true e =
          let f : new_year (r.year + 1) - 1 - j - 1 ≡ new_year (r.year + 1) - 1 - (j + 1) = omega arith in
          rw (date_on_lem j i (ltb-true _ _ (and_left (ltb r.date 29) _ e)), f)
      go false e = refl

  date_moves_back : InRange (j - 1) → date_back r ≡ dated_of (j - 1)
  unfolding date_back dated_of afresh
  date_moves_back k = go (same_month_back r) refl
    where
      go :
          (b : Bool) → same_month_back r ≡ b →
          cond b (record { year = r.year; month = r.month; date = r.date - 1; remaining = r.remaining + 1 }) (dated_of (j - 1)) ≡ dated_of (j - 1)
      go true e =
          let f : new_year (r.year + 1) - 1 - j + 1 ≡ new_year (r.year + 1) - 1 - (j - 1) = omega (arith, (afresh_told wing j w i).remains) in
          rw (date_before j i (ltb-true _ _ (and_left (ltb 1 r.date) _ e)), f)
      go false e = refl

  stretch_moves_on : InRange (j + 1) → stretch_onward r ≡ wing_stretch wing (j + 1)
  unfolding stretch_onward afresh
  stretch_moves_on k = go (lasts r (j + 1)) refl
    where
      go : (b : Bool) → lasts r (j + 1) ≡ b → cond b (kept r (j + 1)) (wing_stretch wing (j + 1)) ≡ wing_stretch wing (j + 1)
      go true e = let t = told (j + 1) e in sym (stretch_is wing (j + 1) _ _ w k (still_for (table_of wing) j _ _ t.0 t.1))
      go false e = refl

  -- The test for a rest day is right for the date of the day.
  rests_is : (k : ℕ) → InRange k → rests wing k (dated_of k) ≡ rest_day (table_of wing) k
  unfolding rests dated_of rest_day is_rest
  rests_is k i = rw (let_pass (ranged first_day last_day k) i)

  stretch_moves_back : InRange (j - 1) → stretch_backward r (dated_of (j - 1)) ≡ wing_stretch wing (j - 1)
  unfolding stretch_backward afresh
  stretch_moves_back k = go (kept_back r (dated_of (j - 1))) refl
    where
      go : (b : Bool) → kept_back r (dated_of (j - 1)) ≡ b → cond b (kept r (j - 1)) (wing_stretch wing (j - 1)) ≡ wing_stretch wing (j - 1)
      go true e =
          let up : j ≡ j - 1 + 1 = omega arith in
          let t = told (j - 1) (and_left (lasts r (j - 1)) _ e) in
          let why = one_tells (leb r.first (j - 1)) (rests wing (j - 1) (dated_of (j - 1))) (and_right (lasts r (j - 1)) _ e) in
          sym
          (stretch_is wing (j - 1) r.first r.length w k
          (already_for (table_of wing) (j - 1) r.first r.length (subst (λ (d : ℕ). StretchFor (table_of wing) d r.first r.length) up t.0)
          (⊎_elim (λ no. inl (sym (rests_is (j - 1) k) ∙ no)) (λ on. inr (leb-true _ _ on)) why)))
      go false e = refl

  -- What the record's fast tells, if there is one.
  fast_told : has_fast r ≡ true → NextFast j r.fast_month (j + r.fast_left)
  unfolding afresh
  fast_told e = next_of j i (ltb-true 0 _ e)

  fast_moves_on : InRange (j + 1) → fast_onward r ≡ fast_ahead (j + 1)
  unfolding fast_onward afresh
  fast_moves_on k = go (fast_kept_on r) refl
    where
      go :
          (b : Bool) → fast_kept_on r ≡ b →
          cond b (record { month = r.fast_month; left = r.fast_left - 1; none = 0 }) (fast_ahead (j + 1)) ≡ fast_ahead (j + 1)
      go true e =
          let l = ltb-true 0 r.fast_left (and_right (has_fast r) _ e) in
          let f : r.fast_left - 1 ≡ j + r.fast_left - (j + 1) = omega arith in
          rw f (sym (ahead_is (j + 1) _ _ k (still_next j _ _ (fast_told (and_left (has_fast r) _ e)) (omega arith))))
      go false e = refl

  fast_moves_back : InRange (j - 1) → fast_backward r (dated_of (j - 1)) ≡ fast_ahead (j - 1)
  unfolding fast_backward dated_of afresh
  fast_moves_back k = go (fast_kept_back r (dated_of (j - 1))) refl
    where
      go :
          (b : Bool) → fast_kept_back r (dated_of (j - 1)) ≡ b →
          cond b (record { month = r.fast_month; left = r.fast_left + 1; none = 0 }) (fast_ahead (j - 1)) ≡ fast_ahead (j - 1)
      go true e =
          let up : j ≡ j - 1 + 1 = omega arith in
          let free = not-true _ (and_right (ltb r.fast_left 400) _ (and_right (has_fast r) _ e)) in
          let t = subst (λ (d : ℕ). NextFast d r.fast_month (j + r.fast_left)) up (fast_told (and_left (has_fast r) _ e)) in
          let f : r.fast_left + 1 ≡ j + r.fast_left - (j - 1) = omega arith in
          rw f (sym (ahead_is (j - 1) _ _ k (already_next (j - 1) _ _ t free)))
      go false e = refl

  pub moves_on : InRange (j + 1) → record_on r ≡ afresh wing (j + 1)
  unfolding record_on afresh
  moves_on k = rw (date_moves_on, stretch_moves_on k, fast_moves_on k)

  pub moves_back : InRange (j - 1) → record_back r ≡ afresh wing (j - 1)
  unfolding record_back afresh
  moves_back k = rw (date_moves_back k, stretch_moves_back k, fast_moves_back k)
