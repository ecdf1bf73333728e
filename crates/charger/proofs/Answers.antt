-- What `charge_start` promises; and that the promise, and so the contract, leaves one answer.
use mathlib.Core.Path.{◌≡◌, refl}
use mathlib.Core.List.{List}
use mathlib.Core.Logic.{by_cases, ⊎_elim}
use Prim.Native.Nat.{ℕ, ◌+◌, ◌*◌, ◌-◌, ◌≤◌}
use native.Mathlib.Omega.{arith}
use native.Mathlib.Decide.{dec_lt, dec_le}
use native.Mathlib.Nat.{mul-le-mul_left}
use borrow.Author.Tests.{ltb-true, ltb-false}
use lib.Dec.{ltb}
use Rattle.laws.proofs.One.{one_result}
use Rattle.laws.proofs.Promises.{Catches, ranged, either, asks, answered, let_pass}
use Rattle.days.specs.Range.{first_day, last_day, InRange}
use Rattle.rest.specs.Wings.{IsWing, table_of}
use Rattle.rest.proofs.Wings.{wings}
use Rattle.charger.specs.Charging.{bad_figures, hour_of, need, hours_needed, earliest_day, chosen}
use Rattle.charger.specs.Promises.{GoodFigures, StretchAfter, Serves, Suffices, SomeHour, ChargeTold, Zeros, PromisedCharge, OneAnswer, NoHour}
use Rattle.charger.specs.Answers.{no_start, start_for, planned, charge_answer}
use Rattle.charger.specs.declared.Figures.{Figures}
use Rattle.charger.specs.declared.ChargeAnswer.{ChargeAnswer}
use Rattle.charger.proofs.Hours.{reaches, no_fewer}
use Rattle.charger.proofs.Chosen.{one_chosen, not_before_day, after, the_chosen, one_to_three, over_by, not_before}

-- A figure outside its range is caught.
pub figures_caught : (x : Figures) → Catches (bad_figures x) (GoodFigures x)
figures_caught x =
    let t = either (ranged 1 1000000 x.draw) (either (ranged 1 1000000 x.capacity) (either (ranged 1 1000000 x.rate) charge)) in
    record {
      passes = λ e. let g = t.passes e in record { draw = g.0; capacity = g.1.0; rate = g.1.1.0; charge = g.1.1.1 };
      catches = λ e g. t.catches e (g.draw, (g.capacity, (g.rate, g.charge)));
    }
  where
    charge : Catches (ltb x.capacity x.charge) (x.charge ≤ x.capacity)
    charge = record { passes = ltb-false _ _; catches = λ e l. omega (arith, ltb-true x.capacity x.charge e) }

module _ (wing j : ℕ) (x : Figures) (w : IsWing wing) (i : InRange j) (g : GoodFigures x) (m : StretchAfter (table_of wing) j) where
  abbrev table : List ℕ
  table = table_of wing

  abbrev from : ℕ
  from = earliest_day wing j

  abbrev first : ℕ
  first = (chosen wing j).first

  abbrev days : ℕ
  days = (chosen wing j).length

  abbrev n : ℕ
  n = need x days

  abbrev hours : ℕ
  hours = hours_needed x n

  -- A need above the capacity is caught.
  borne : Catches (ltb x.capacity n) (Suffices table j x)
  borne =
      record {
        passes = λ e. record { first = first; days = days; the_chosen = the_chosen wing j w i m; within = ltb-false _ _ e };
        catches = λ e s.
            let d = (one_chosen table j _ _ _ _ s.the_chosen (the_chosen wing j w i m)).1 in
            let l = rw d at s.within in omega (arith, ltb-true x.capacity n e);
      }

  -- An hour serves exactly if it leaves the hours that are needed, and comes no sooner than charging may begin.
  serves : (s : ℕ) → hour_of from ≤ s → s + hours ≤ hour_of first → Serves table j x first days s
  serves s l u =
      let k : hours ≤ 24 * first - s = omega arith in
      record {
        not_before_day = omega (arith, not_before_day wing j w i);
        not_before_end = λ f c r p. omega (arith, over_by wing j w i m f c r p);
        by_start = omega arith;
        enough = omega (arith, reaches x n g.rate.0, mul-le-mul_left x.rate k);
      }

  served : (s : ℕ) → Serves table j x first days s → (hour_of from ≤ s) × (s + hours ≤ hour_of first)
  served s v = (
    not_before wing j w i m s v.not_before_day v.not_before_end,
    omega (arith, v.by_start, no_fewer x n g.rate.0 (24 * first - s) v.enough),
  )

  -- Hours that do not fit are caught.
  fits : Catches (ltb (hour_of first) (hour_of from + hours)) (SomeHour table j x)
  fits =
      record {
        passes = λ e.
            let l = ltb-false (hour_of first) (hour_of from + hours) e in
            let start = hour_of first - hours in
            record {
              first = first;
              days = days;
              start = start;
              the_chosen = the_chosen wing j w i m;
              serves = serves start (omega arith) (omega arith);
            };
        catches = λ e s.
            let c = one_chosen table j _ _ _ _ s.the_chosen (the_chosen wing j w i m) in
            let v = served s.start (rw (c.0, c.1) at s.serves) in omega (arith, ltb-true (hour_of first) (hour_of from + hours) e);
      }

  told : hour_of from + hours ≤ hour_of first → ChargeTold table j x (start_for hours first days)
  told l =
      let begin = hour_of first - hours in
      record {
        the_chosen = the_chosen wing j w i m;
        one_to_three = one_to_three wing j w i m;
        serves = serves begin (omega arith) (omega arith);
        done_by = omega arith;
        reaches = reaches x n g.rate.0;
        no_fewer = no_fewer x n g.rate.0;
        too_late = λ some.
            let k = 24 * first - (begin + 1) in
            by_cases (dec_lt (x.charge + x.rate * k) n)
            (λ p. p)
            (λ p. absurd (omega (arith, no_fewer x n g.rate.0 k (omega arith))));
        latest = λ s v. omega (arith, (served s v).1);
      }

zeros : (n : ℕ) → Zeros (no_start n)
zeros n = (refl, (refl, (refl, refl)))

alike :
    (r s : ChargeAnswer) → r.refusal ≡ s.refusal → r.start ≡ s.start → r.hours ≡ s.hours → r.first ≡ s.first → r.length ≡ s.length →
    r ≡ s
alike r s a b c d e = λ k. record { refusal = a k; start = b k; hours = c k; first = d k; length = e k }

module _ (wing j : ℕ) (x : Figures) where
  pub charge_promised : PromisedCharge wing j x (charge_answer wing j x)
  unfolding planned
  charge_promised =
      asks (no_start 15) (wings wing) (omega arith) refl (zeros 15) (λ w.
      asks (no_start 4) (ranged first_day last_day j) (omega arith) refl (zeros 4) (λ i.
      asks (no_start 12) (figures_caught x) (omega arith) refl (zeros 12) (λ g.
      asks (no_start 9) (after wing j w i) (omega arith) refl (zeros 9) (λ m.
      asks (no_start 13) (borne wing j x w i g m) (omega arith) refl (zeros 13) (λ _.
      asks (no_start 14) (fits wing j x w i g m) (omega arith) refl (zeros 14) (λ h.
      answered refl (told wing j x w i g m (ltb-false _ _ (let_pass (fits wing j x w i g m) h)))))))))

  -- The promise alone leaves one answer.
  pub promised_one : OneAnswer wing j x
  promised_one r s p q =
      let n = r.refusal in
      by_cases (dec_le 1 n)
      (λ l.
      let u = (p.refused n l).0 refl in
      let e : s.refusal ≡ n = (q.refused n l).1 u in
      let y = p.besides n u in
      let z = q.besides n u in
      alike r s (omega arith) (omega (arith, y.0, z.0)) (omega (arith, y.1.0, z.1.0))
      (omega (arith, y.1.1.0, z.1.1.0)) (omega (arith, y.1.1.1, z.1.1.1)))
      (λ l.
      let all = p.done.0 (let e : n ≡ 0 = omega arith in e) in
      let v = p.values all in
      let w = q.values all in
      let c = one_chosen (table_of wing) j _ _ _ _ v.the_chosen w.the_chosen in
      let a : r.start ≤ s.start = w.latest r.start (rw (c.0, c.1) at v.serves) in
      let b : s.start ≤ r.start = v.latest s.start (rw (← c.0, ← c.1) at w.serves) in
      alike r s (omega (arith, q.done.1 all)) (omega arith) (omega (arith, v.done_by, w.done_by, c.0)) c.0 c.1)

  pub no_hour : NoHour wing j x (charge_answer wing j x)
  no_hour e first days s c v =
      let h : SomeHour (table_of wing) j x = record { first = first; days = days; start = s; the_chosen = c; serves = v } in
      ⊎_elim (λ u. omega (arith, u.1))
      (λ w. ⊎_elim (λ u. omega (arith, u.1))
      (λ i. ⊎_elim (λ u. omega (arith, u.1))
      (λ g. ⊎_elim (λ u. omega (arith, u.1))
      (λ m. ⊎_elim (λ u. omega (arith, u.1)) (λ b. ⊎_elim (λ u. u.0 h) (λ n. n.1) b.1) m.1) g.1) i.1) w.1)
      ((charge_promised.refused 14 (omega arith)).0 e)

  -- So does the contract.
  pub charge_one : (r s : ChargeAnswer) → r ≡ charge_answer wing j x → s ≡ charge_answer wing j x → r ≡ s
  charge_one = one_result (charge_answer wing j x)
