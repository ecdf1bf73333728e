-- The words of this crate are these numbers, by the stretches that are fixed in `stretch`; and on which days no stretch begins later.
use mathlib.Core.Path.{◌≡◌, refl, ap}
use mathlib.Core.Bool.{false, cond}
use mathlib.Core.Logic.{⊎_elim, by_cases}
use Prim.Native.Nat.{ℕ, ◌+◌, ◌-◌}
use native.Mathlib.Omega.{arith}
use native.Mathlib.Decide.{dec_lt}
use lib.IntN.{pos}
use Rattle.days.specs.Range.{last_day, out_of_range}
use Rattle.rest.specs.Wings.{IsWing, out_of_wings, table_of}
use Rattle.stretch.specs.Fixed.{StretchIs, NoStretch}
use Rattle.stretch.specs.Promises.{StretchAhead}
use Rattle.stretch.specs.Answers.{wing_stretch}
use Rattle.stretch.specs.declared.StretchAnswer.{StretchAnswer}
use Rattle.stretch.proofs.Answers.{stretch_promised}
use Rattle.stretch.proofs.Fixed.{words_fixed as stretches}
use Rattle.charger.specs.Charging.{bad_figures, hours_needed, holding, earliest_day}
use Rattle.charger.specs.Answers.{no_start, planned, charge_answer}
use Rattle.charger.specs.Promises.{LastFive}
use Rattle.charger.specs.Fixed.{WordsFixed, figures, day_long}
use Rattle.charger.specs.declared.Figures.{Figures}
use Rattle.charger.specs.declared.ChargeAnswer.{ChargeAnswer}

-- The answer where charging may begin with day `from`, for stretch t.
abbrev answer : ℕ → ℕ → ℕ → StretchAnswer → Figures → ChargeAnswer
answer wing j from t x =
    cond (out_of_wings wing) (no_start 15) (cond (out_of_range j) (no_start 4) (cond (bad_figures x) (no_start 12) (planned from t x)))

-- It goes by the stretch for the day asked, and by that for the day with which charging may begin.
by_stretches :
    (wing j from : ℕ) (s t : StretchAnswer) (x : Figures) → wing_stretch wing j ≡ s →
    cond (holding s j) (s.first + s.length) j ≡ from → wing_stretch wing from ≡ t → charge_answer wing j x ≡ answer wing j from t x
unfolding earliest_day
by_stretches wing j from s t x e f n = let z : earliest_day wing j ≡ from = rw e f in rw (z, n)

by_own :
    (wing j : ℕ) (s : StretchAnswer) (x : Figures) → wing_stretch wing j ≡ s → holding s j ≡ false →
    charge_answer wing j x ≡ answer wing j j s x
by_own wing j s x e h = by_stretches wing j j s s x e (rw h) e

friday :
    (x : Figures) →
    charge_answer 1 2452188 x ≡ answer 1 2452188 2452188 (record { refusal = 0; first = 2452189; length = 1; days_left = pos 1 }) x
friday x = by_own 1 2452188 _ x stretches.eves.0 refl

-- The last Saturday in either wing.
last_saturday_lem : (wing : ℕ) → IsWing wing → StretchIs wing 4000071 4000071 1 (pos 0)
last_saturday_lem wing = ⊎_elim (λ e. rw e stretches.last_day_lem.0) (λ e. rw e stretches.last_day_lem.1)

then_none : (wing : ℕ) → IsWing wing → NoStretch wing 4000072 9
then_none wing = ⊎_elim (λ e. rw e stretches.last_day_lem.2) (λ e. rw e stretches.last_day_lem.3)

pub last_five : LastFive
last_five wing j w = (
  λ m.
      by_cases (dec_lt (last_day - 5) j)
      (λ p.
      let a : StretchAhead (table_of wing) 4000072 =
      record { first = m.first; days = m.days; a_stretch = m.a_stretch; not_over = omega (arith, m.later, m.a_stretch.some) } in
      let z = (stretch_promised wing 4000072).done.1 (w, (omega arith, (a, tt))) in
      absurd (omega (arith, ap (λ (r : StretchAnswer). r.refusal) (then_none wing w))))
      (λ p. omega arith),
  λ l.
      let e = last_saturday_lem wing w in
      let t = stretch_promised wing 4000071 in
      let v = (t.values (t.done.0 (ap (λ (r : StretchAnswer). r.refusal) e))).0 in
      record { first = 4000071; days = 1; a_stretch = rw e at v.a_stretch; later = omega arith },
)

pub words_fixed : WordsFixed
unfolding planned hours_needed
words_fixed =
    record {
      friday = (
        friday (figures 24000 30000 1000 4000),
        friday (figures 24001 30000 1000 4000),
        friday day_long,
        friday (figures 24001 30000 1000 0),
      );
      charged = (
        friday (figures 24000 30000 1000 23999),
        friday (figures 24000 30000 1000 24000),
        friday (figures 24000 30000 1000 30000),
      );
      eve = (
        by_own 1 2456925 _ (figures 20000 60000 1000 36000) stretches.eves.1 refl,
        by_own 1 2456925 _ (figures 20000 59999 1000 36000) stretches.eves.1 refl,
        by_own 1 2456925 _ (figures 20000 60000 999 36000) stretches.eves.1 refl,
      );
      begun = (
        by_stretches 1 347998 348000 _ _ (figures 72000 72000 1000 0) stretches.first_day_is.0 refl stretches.days_after.0,
        by_stretches 1 347998 348000 _ _ (figures 72001 72001 1000 0) stretches.first_day_is.0 refl stretches.days_after.0,
        by_stretches 2 347998 348000 _ _ (figures 72000 72000 1000 0) stretches.first_day_is.1 refl stretches.days_after.1,
        by_stretches 2 347998 348000 _ _ (figures 72001 72001 1000 0) stretches.first_day_is.1 refl stretches.days_after.1,
      );
      both_wings = (
        by_stretches 1 2456942 2456943 _ _ (figures 32000 96000 1000 0) stretches.second_days.2 refl stretches.days_after.2,
        by_stretches 2 2456942 2456943 _ _ (figures 32000 96000 1000 0) stretches.second_days.3 refl stretches.days_after.3,
        by_own 1 2456943 _ (figures 32000 96000 1000 0) stretches.days_after.2 refl,
        by_own 2 2456943 _ (figures 32000 96000 1000 0) stretches.days_after.3 refl,
        by_stretches 2 2456942 2456943 _ _ (figures 32001 96003 1000 0) stretches.second_days.3 refl stretches.days_after.3,
      );
      least = (
        friday (figures 1 1 1 0),
        friday (figures 1 1 1 1),
      );
      most = (
        friday (figures 1000000 1000000 1000000 0),
        friday (figures 1000000 1000000 1000000 1000000),
      );
      no_figure = (refl, refl, refl, refl, refl, refl, refl);
      last_start = (
        by_own 1 4000070 _ day_long stretches.eves.2 refl,
        by_own 2 4000070 _ day_long stretches.eves.3 refl,
      );
      no_stretch_is = (
        by_stretches 1 4000071 4000072 _ _ day_long stretches.last_day_lem.0 refl stretches.last_day_lem.2,
        by_stretches 2 4000071 4000072 _ _ day_long stretches.last_day_lem.1 refl stretches.last_day_lem.3,
        by_own 1 4000072 _ day_long stretches.last_day_lem.2 refl,
        by_own 2 4000072 _ day_long stretches.last_day_lem.3 refl,
        by_own 1 4000075 _ day_long stretches.last_day_lem.4 refl,
        by_own 2 4000075 _ day_long stretches.last_day_lem.5 refl,
      );
      no_day_is = (refl, refl, refl, refl);
      no_wing = (refl, refl);
      in_turn = (
        refl,
        refl,
        refl,
        by_stretches 1 4000071 4000072 _ _ (figures 30001 30000 1 0) stretches.last_day_lem.0 refl stretches.last_day_lem.2,
        friday (figures 30001 30000 1 0),
        friday (figures 30000 30000 1 0),
      );
    }
