-- There is one stretch for a day. A day's stretch is the next day's too until it is over, and the day before's unless
-- that is the last day of another.
use mathlib.Core.Path.{◌≡◌, ap, ◌∙◌}
use mathlib.Core.Bool.{false}
use mathlib.Core.List.{List, ◌∷◌}
use mathlib.Core.Logic.{◌⊎◌, ⊎_elim, by_cases}
use Prim.Native.Nat.{ℕ, ◌+◌, ◌≤◌, ◌<◌}
use native.Mathlib.Omega.{arith}
use native.Mathlib.Decide.{dec_lt}
use lib.IntN.{sub_ℕ}
use Rattle.laws.specs.Promise.{◌else◌, AllMet}
use Rattle.laws.proofs.Tests.{clash}
use Rattle.laws.proofs.Found.{as_long}
use Rattle.laws.proofs.Signed.{minus}
use Rattle.days.specs.Range.{InRange}
use Rattle.rest.specs.Table.{rest_day}
use Rattle.rest.specs.Wings.{IsWing, table_of}
use Rattle.stretch.specs.Stretches.{StretchFor}
use Rattle.stretch.specs.Promises.{asked_of_day}
use Rattle.stretch.specs.Answers.{wing_stretch}
use Rattle.stretch.proofs.Answers.{stretch_promised}

-- What is answered for a day is the only stretch that there is for it.
pub stretch_is :
    (wing j f c : ℕ) → IsWing wing → InRange j → StretchFor (table_of wing) j f c →
    wing_stretch wing j ≡ record { refusal = 0; first = f; length = c; days_left = sub_ℕ f j }
stretch_is wing j f c w i s =
    let t = stretch_promised wing j in
    let m : AllMet (IsWing wing else 15 ∷ asked_of_day (table_of wing) j) = (w, (i, (record { first = f; days = c; a_stretch = s.a_stretch; not_over = s.not_over }, tt))) in
    let v = t.values m in
    let r = wing_stretch wing j in
    let e : r.first ≡ f = omega (arith, s.earliest _ _ v.0.a_stretch v.0.not_over, v.0.earliest f c s.a_stretch s.not_over) in
    let n : r.length ≡ c = as_long _ f _ c (rw e at v.0.a_stretch) s.a_stretch in
    let d : r.days_left ≡ sub_ℕ f j = v.1.1.0 ∙ minus r.first j ∙ ap (λ (a : ℕ). sub_ℕ a j) e in
    λ k. record { refusal = t.done.1 m k; first = e k; length = n k; days_left = d k }

module _ (table : List ℕ) (j f c : ℕ) where
  pub still_for : StretchFor table j f c → j + 1 < f + c → StretchFor table (j + 1) f c
  still_for s l = record { a_stretch = s.a_stretch; not_over = l; earliest = λ g d r k. s.earliest g d r (omega arith) }

  -- It is for day j too, unless another ends with day j.
  pub already_for : StretchFor table (j + 1) f c → (rest_day table j ≡ false) ⊎ (f ≤ j) → StretchFor table j f c
  already_for s why =
      record {
        a_stretch = s.a_stretch;
        not_over = omega (arith, s.not_over);
        earliest = λ g d r k.
            by_cases (dec_lt (j + 1) (g + d))
            (λ l. s.earliest g d r l)
            (λ l.
            let e : g + d ≡ j + 1 = omega arith in
            ⊎_elim
            (λ no. absurd (clash (rest_day table j) (r.passes j (omega (arith, r.some)) k) no))
            (λ on. absurd (clash (rest_day table (j + 1)) (s.a_stretch.passes (j + 1) (omega arith) s.not_over) (rw e at r.after)))
            why);
      }
