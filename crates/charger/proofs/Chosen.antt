-- Which stretch is chosen, and with which day charging may begin. Of the calendar these cite what `stretch` promises.
use mathlib.Core.Path.{◌≡◌, refl}
use mathlib.Core.Bool.{Bool, true, false, cond}
use mathlib.Core.List.{List}
use mathlib.Core.Logic.{◌⊎◌, inl, inr, ⊎_elim, by_cases}
use Prim.Native.Nat.{ℕ, ◌+◌, ◌*◌, ◌-◌, ◌≤◌, ◌<◌}
use native.Mathlib.Omega.{arith}
use native.Mathlib.Decide.{dec_lt, dec_le}
use borrow.Author.Tests.{ltb-true, ltb-false, leb-true, leb-false, eqb-true, eq-eqb}
use lib.Dec.{eqb, ltb}
use Rattle.laws.specs.Search.{Run}
use Rattle.laws.proofs.Tests.{and_left, and_right, clash}
use Rattle.laws.proofs.Promises.{Catches, let_pass}
use Rattle.laws.proofs.Found.{as_long}
use Rattle.days.specs.Range.{last_day, InRange}
use Rattle.rest.specs.Table.{rest_day}
use Rattle.rest.specs.Wings.{IsWing, table_of}
use Rattle.stretch.specs.Stretches.{StretchFor}
use Rattle.stretch.specs.Promises.{StretchAhead}
use Rattle.stretch.specs.Answers.{wing_stretch}
use Rattle.stretch.specs.declared.StretchAnswer.{StretchAnswer}
use Rattle.stretch.proofs.Answers.{either_wing, stretch_promised}
use Rattle.charger.specs.Charging.{holding, earliest_day, chosen}
use Rattle.charger.specs.Promises.{StretchAfter, Chosen}

-- One stretch is chosen.
pub one_chosen : (table : List ℕ) (j f c g d : ℕ) → Chosen table j f c → Chosen table j g d → (f ≡ g) × (c ≡ d)
one_chosen table j f c g d s t =
    let e : f ≡ g = omega (arith, s.next g d t.a_stretch t.later, t.next f c s.a_stretch s.later) in
    (e, as_long (rest_day table) g c d (rw e at s.a_stretch) t.a_stretch)

-- A stretch holds the day asked and ends with the day before day `from`.
record Held (table : List ℕ) (j from : ℕ) : Type 0 where
  first : ℕ
  days : ℕ
  a_stretch : Run (rest_day table) first days
  begun : first ≤ j
  ends : first + days ≡ from

-- Day `from` is the day asked, or the day after the stretch that holds it.
record Free (table : List ℕ) (j from : ℕ) : Type 0 where
  not_sooner : j ≤ from
  why : (from ≡ j) ⊎ Held table j from

module _ (table : List ℕ) (j from : ℕ) (free : Free table j from) where
  -- A stretch that begins after the day asked is not over on day `from`.
  not_over : (f c : ℕ) → Run (rest_day table) f c → j < f → from < f + c
  not_over f c r l =
      by_cases (dec_lt from (f + c))
      (λ p. p)
      (λ p.
      ⊎_elim
      (λ e. absurd (omega (arith, r.some)))
      (λ h.
      absurd
      (clash (rest_day table (f - 1)) (h.a_stretch.passes (f - 1) (omega (arith, h.begun)) (omega (arith, h.ends, r.some))) r.before))
      free.why)

  -- The stretch for day `from`, if it begins after that day, is chosen; the stretches ahead of it are over by day `from`; and
  -- who begins neither before the day asked nor before their end does not begin before that day.
  module _ (f c : ℕ) (s : StretchFor table from f c) (later : from < f) where
    is_chosen : Chosen table j f c
    is_chosen =
        record {
          a_stretch = s.a_stretch;
          later = omega (arith, free.not_sooner);
          next = λ g d r l. s.earliest g d r (not_over g d r l);
        }

    all_over : (g d : ℕ) → Run (rest_day table) g d → g < f → g + d ≤ from
    all_over g d r l = by_cases (dec_lt from (g + d)) (λ p. absurd (omega (arith, s.earliest g d r p))) (λ p. omega arith)

    no_sooner : (n : ℕ) → 24 * j ≤ n → ((g d : ℕ) → Run (rest_day table) g d → g < f → 24 * (g + d) ≤ n) → 24 * from ≤ n
    no_sooner n l ends =
        ⊎_elim
        (λ e. omega arith)
        (λ h. omega (arith, h.ends, ends h.first h.days h.a_stretch (omega (arith, h.begun, free.not_sooner))))
        free.why

-- What is answered without a refusal is the stretch for the day.
for_day : (wing j : ℕ) → let s = wing_stretch wing j in s.refusal ≡ 0 → StretchFor (table_of wing) j s.first s.length
for_day wing j e = let t = stretch_promised wing j in (t.values (t.done.0 e)).0

-- An answer's numbers lie in the range; so do a refused one's, which are 0.
pub in_bounds : (wing j : ℕ) → let s = wing_stretch wing j in (s.first + s.length ≤ last_day) × (s.length ≤ 3)
in_bounds wing j =
    let t = stretch_promised wing j in
    let n = (wing_stretch wing j).refusal in
    by_cases (dec_le 1 n)
    (λ l. let z = t.besides n ((t.refused n l).0 refl) in (omega (arith, z.0, z.1.0), omega (arith, z.1.0)))
    (λ l.
    let e : n ≡ 0 = omega arith in ((either_wing wing).over _ _ (for_day wing j e).a_stretch, (t.values (t.done.0 e)).1.0.1))

pub earliest_by :
    (wing j : ℕ) (b : Bool) → let s = wing_stretch wing j in
    holding s j ≡ b → earliest_day wing j ≡ cond b (s.first + s.length) j
unfolding earliest_day
earliest_by wing j b e = rw e

module _ (wing j : ℕ) (w : IsWing wing) (i : InRange j) where
  abbrev table : List ℕ
  table = table_of wing

  abbrev s : StretchAnswer
  s = wing_stretch wing j

  abbrev from : ℕ
  from = earliest_day wing j

  -- From the day asked on, or from the day after its stretch; and the stretch for that day begins later.
  record Opens (from : ℕ) : Type 0 where
    free : Free table j from
    in_range : InRange from
    later : (wing_stretch wing from).refusal ≡ 0 → from < (wing_stretch wing from).first

  opens_by : (b : Bool) → holding s j ≡ b → Opens (cond b (s.first + s.length) j)
  opens_by true e =
      let good : s.refusal ≡ 0 = eqb-true _ _ (and_left _ _ e) in
      let begun : s.first ≤ j = leb-true _ _ (and_right (eqb s.refusal 0) _ e) in
      let f = for_day wing j good in
      record {
        free =
            record {
              not_sooner = omega (arith, f.not_over);
              why = inr (record { first = s.first; days = s.length; a_stretch = f.a_stretch; begun = begun; ends = refl });
            };
        in_range = (omega (arith, i.0, f.not_over), (either_wing wing).over _ _ f.a_stretch);
        later = λ z.
            let past = s.first + s.length in
            let n = for_day wing past z in
            by_cases (dec_lt past (wing_stretch wing past).first)
            (λ p. p)
            (λ p. absurd (clash (rest_day table past) (n.a_stretch.passes past (omega arith) n.not_over) f.a_stretch.after));
      }
  opens_by false e =
      record {
        free = record { not_sooner = omega arith; why = inl refl };
        in_range = i;
        later = λ z. leb-false _ _ (rw (eq-eqb s.refusal 0 z) at e);
      }

  opens : Opens from
  opens = rw (earliest_by wing j (holding s j) refl) (opens_by (holding s j) refl)

  pub not_before_day : j ≤ from
  not_before_day = opens.free.not_sooner

  -- A day after which no stretch begins is caught.
  pub after : Catches (ltb 0 (chosen wing j).refusal) (StretchAfter table j)
  after =
      let t = stretch_promised wing from in
      record {
        passes = λ e.
            let z : (chosen wing j).refusal ≡ 0 = omega (arith, ltb-false 0 (chosen wing j).refusal e) in
            record { first = _; days = _; a_stretch = (for_day wing from z).a_stretch; later = omega (arith, not_before_day, opens.later z) };
        catches = λ e m.
            let o = not_over table j from opens.free _ _ m.a_stretch m.later in
            let a : StretchAhead table from = record { first = m.first; days = m.days; a_stretch = m.a_stretch; not_over = o } in
            omega (arith, ltb-true 0 (chosen wing j).refusal e, t.done.1 (w, (opens.in_range, (a, tt))));
      }

  -- Else the stretch for day `from` is chosen.
  module _ (m : StretchAfter table j) where
    abbrev first : ℕ
    first = (chosen wing j).first

    abbrev days : ℕ
    days = (chosen wing j).length

    done : (chosen wing j).refusal ≡ 0
    done = omega (arith, ltb-false 0 (chosen wing j).refusal (let_pass after m))

    pub the_chosen : Chosen table j first days
    the_chosen = is_chosen table j from opens.free first days (for_day wing from done) (opens.later done)

    pub one_to_three : (1 ≤ days) × (days ≤ 3)
    one_to_three = (either_wing wing).at_most_three first days the_chosen.a_stretch

    -- The stretches ahead of it are over by that day, and no sooner day is after the day asked and their end.
    pub over_by : (g d : ℕ) → Run (rest_day table) g d → g < first → g + d ≤ from
    over_by = all_over table j from opens.free first days (for_day wing from done) (opens.later done)

    pub not_before : (n : ℕ) → 24 * j ≤ n → ((g d : ℕ) → Run (rest_day table) g d → g < first → 24 * (g + d) ≤ n) → 24 * from ≤ n
    not_before = no_sooner table j from opens.free first days (for_day wing from done) (opens.later done)
