-- What `stretch` promises, for any table that passes the check and so for either wing's; and that its contract leaves one
-- answer.
use mathlib.Core.Path.{◌≡◌, refl, sym}
use mathlib.Core.Bool.{true}
use mathlib.Core.List.{List}
use mathlib.Core.Logic.{by_cases}
use Prim.Native.Nat.{ℕ, suc, ◌+◌, ◌-◌, ◌≤◌}
use native.Mathlib.Omega.{arith}
use native.Mathlib.Decide.{dec_lt}
use borrow.Author.Tests.{lt-ltb, le-ltb, le-leb, ltb-true, ltb-false}
use lib.Dec.{ltb}
use lib.IntN.{ℤ, pos, negsuc, sub_ℕ}
use lib.Signed.{◌≤ℤ◌}
use Rattle.laws.specs.Promise.{SmallestAfter}
use Rattle.laws.proofs.One.{one_result}
use Rattle.laws.proofs.Signed.{minus}
use Rattle.laws.proofs.Promises.{Catches, ranged, asks, answered, smallest_after}
use Rattle.days.specs.Range.{first_day, last_day, InRange}
use Rattle.rest.specs.Wings.{table_of}
use Rattle.rest.specs.Check.{passes}
use Rattle.rest.proofs.Passed.{tables_pass}
use Rattle.rest.proofs.Wings.{wing_promised}
use Rattle.stretch.specs.Stretches.{next_rest, stretch_first}
use Rattle.stretch.specs.Promises.{StretchAhead, Shared, asked_of_day, StretchTold, PromisedStretch}
use Rattle.stretch.specs.Answers.{no_stretch, stretch_answer, wing_stretch}
use Rattle.stretch.specs.declared.StretchAnswer.{StretchAnswer}
use Rattle.stretch.proofs.Theorems.{ends_in_range, at_most_three, no_crossing, stretch_ahead, stretch-for, days_left, none_ahead}

-- Signed, from -2 to 6.
few_left : (a b : ℕ) → a ≤ b + 6 → b ≤ a + 2 → (negsuc 1 ≤ℤ sub_ℕ a b) × (sub_ℕ a b ≤ℤ pos 6)
few_left a b l u =
    by_cases (dec_lt a b)
    (λ p. rw (lt-ltb a b p) (record { le = rw (le-leb (b - suc a) 1 (omega arith)) tt }, record { le = tt }))
    (λ p. rw (le-ltb a b (omega arith)) (record { le = tt }, record { le = rw (le-leb (a - b) 6 (omega arith)) tt }))

module _ (table : List ℕ) (ok : passes table ≡ true) where
  -- A day after which no stretch ends is caught.
  ahead : (j : ℕ) → InRange j → Catches (ltb last_day (next_rest table j)) (StretchAhead table j)
  ahead j i =
      record {
        passes = λ e.
            let f = stretch-for table ok j i (ltb-false _ _ e) in
            record { first = _; days = _; a_stretch = f.a_stretch; not_over = f.not_over };
        catches = λ e m. none_ahead table ok j i (ltb-true _ _ e) m.first m.days m.a_stretch m.not_over;
      }

  near : (j : ℕ) → InRange j → StretchAhead table j → next_rest table j ≤ last_day
  near j i m =
      by_cases (dec_lt last_day (next_rest table j))
      (λ p. absurd (none_ahead table ok j i p m.first m.days m.a_stretch m.not_over))
      (λ p. omega arith)

  pub shared : Shared table
  shared =
      record {
        at_most_three = at_most_three table ok;
        no_crossing = λ f c h r y. no_crossing table ok f c h r y.0 y.1;
        over = ends_in_range table ok;
        ahead = stretch_ahead table ok;
        days_left = λ j f c i s.
            let p = near j i (record { first = f; days = c; a_stretch = s.a_stretch; not_over = s.not_over }) in
            let t = stretch-for table ok j i p in
            let e : f ≡ stretch_first table j = omega (arith, s.earliest _ _ t.a_stretch t.not_over, t.earliest f c s.a_stretch s.not_over) in
            rw e (days_left table ok j i p);
      }

  pub stretch_told : (j : ℕ) → StretchTold (asked_of_day table j) table j (stretch_answer table j)
  unfolding stretch_answer
  stretch_told j =
      asks (no_stretch 4) (ranged first_day last_day j) (omega arith) refl (refl, (refl, refl)) (λ i.
      asks (no_stretch 9) (ahead j i) (omega arith) refl (refl, (refl, refl)) (λ m.
      let f = stretch-for table ok j i (near j i m) in
      let d = days_left table ok j i (near j i m) in
      answered refl
      (f, (at_most_three table ok _ _ f.a_stretch, (sym (minus (stretch_first table j) j), few_left (stretch_first table j) j d.0 d.1)))))

-- So for the wing that is named, which is asked first.
module _ (wing : ℕ) where
  pub either_wing : Shared (table_of wing)
  either_wing = shared (table_of wing) (tables_pass wing)

  pub stretch_promised : (j : ℕ) → PromisedStretch wing j (wing_stretch wing j)
  stretch_promised j =
      wing_promised wing (no_stretch 15) (λ table. stretch_answer table j) refl (refl, (refl, refl)) (stretch_told (table_of wing) (tables_pass wing) j)

  -- Where the wing is 1 or 2 the smallest refusal is given.
  pub stretch_smallest : (j : ℕ) → SmallestAfter (stretch_promised j)
  stretch_smallest j = smallest_after (stretch_promised j) (omega arith, (omega arith, tt))

  -- One answer.
  pub stretch_one : (j : ℕ) (r s : StretchAnswer) → r ≡ wing_stretch wing j → s ≡ wing_stretch wing j → r ≡ s
  stretch_one j = one_result (wing_stretch wing j)

  -- And one result of each step.
  pub stretch_in_one : (j : ℕ) (r s : StretchAnswer) → r ≡ stretch_answer (table_of wing) j → s ≡ stretch_answer (table_of wing) j → r ≡ s
  stretch_in_one j = one_result (stretch_answer (table_of wing) j)

pub days_left_one : (first j : ℕ) (r s : ℤ) → r ≡ sub_ℕ first j → s ≡ sub_ℕ first j → r ≡ s
days_left_one first j = one_result (sub_ℕ first j)
