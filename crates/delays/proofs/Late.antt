-- What the delays do: each cause comes exactly where its rule applies, with its own days.
use mathlib.Core.Path.{◌≡◌, refl, sym, ◌∙◌}
use mathlib.Core.Bool.{Bool, true, false, ◌&&◌, not, beq}
use mathlib.Core.List.{List, [], ◌∷◌}
use mathlib.Core.Logic.{◌↔◌, by_cases}
use Prim.Native.Nat.{ℕ, ◌+◌, ◌≤◌, ◌<◌}
use native.Mathlib.Omega.{arith}
use native.Mathlib.Decide.{dec_lt}
use lib.Dec.{eqb, ltb, leb}
use lib.ListN.{get_or}
use borrow.Author.Tests.{eq-eqb, eqb-true, lt-ltb, le-ltb, ltb-true, ltb-false, le-leb, lt-leb, leb-true, not-true}
use Rattle.laws.specs.Runs.{every, either_way, elem}
use Rattle.laws.proofs.Tests.{and_left, and_right, at, whether, all, Each, facts, beq_true}
use Rattle.delays.specs.Delays.{from_noon, closed, tuesday_rule, monday_rule, by_rules, delayed}
use Rattle.delays.specs.Promises.{Explained}
use Rattle.delays.specs.declared.Delayed.{Delayed}

-- Two delays with the same days and the same cause.
unfoldable pub alike : Delayed → Delayed → Bool
alike a b = eqb a.delay b.delay && eqb a.cause b.cause

pub are_alike : (a b : Delayed) → alike a b ≡ true → a ≡ b
unfolding alike
are_alike a b e =
    let d = eqb-true a.delay b.delay (and_left _ _ e) in
    let c = eqb-true a.cause b.cause (and_right (eqb a.delay b.delay) _ e) in λ i. record { delay = d i; cause = c i }

-- The delay by what the tests of the time say: at the Tuesday limit or later, at the Monday limit or later, before noon.
abbrev pub by_times : ℕ → Bool → Bool → Bool → Bool → Bool → Delayed
by_times w common afterLeap nine fifteen beforeNoon =
    by_rules (common && eqb w 3 && nine && beforeNoon) (afterLeap && eqb w 2 && fifteen && beforeNoon) (not beforeNoon) (closed (w + 1)) (closed w)

pub noon_or_before : (t : ℕ) → leb 19440 t ≡ not (ltb t 19440)
noon_or_before t =
    by_cases (dec_lt t 19440)
    (λ p. rw (lt-ltb t 19440 p, lt-leb 19440 t p))
    (λ p. rw (le-ltb t 19440 (omega arith), le-leb 19440 t (omega arith)))

pub by_times_lem : (w t : ℕ) (isLeap afterLeap : Bool) → delayed w t isLeap afterLeap ≡ by_times w (not isLeap) afterLeap (leb 9924 t) (leb 16789 t) (ltb t 19440)
unfolding delayed tuesday_rule monday_rule from_noon
by_times_lem w t isLeap afterLeap = rw (noon_or_before t)

-- What is to be shown, as tests: each cause, that there is no other, and the days.
tests : ℕ → Bool → Bool → Bool → Bool → Bool → List Bool
tests w common afterLeap nine fifteen beforeNoon =
    let late = by_times w common afterLeap nine fifteen beforeNoon in
    let c = late.cause in
    beq (eqb c 1) (not beforeNoon && elem w (1 ∷ 2 ∷ 4 ∷ 6 ∷ []))
    ∷ beq (eqb c 2) (beforeNoon && elem w (1 ∷ 4 ∷ 6 ∷ []))
    ∷ beq (eqb c 3) (not beforeNoon && elem w (3 ∷ 5 ∷ 7 ∷ []))
    ∷ beq (eqb c 4) ((common && eqb w 3) && (nine && beforeNoon))
    ∷ beq (eqb c 5) ((afterLeap && eqb w 2) && (fifteen && beforeNoon))
    ∷ leb c 5 ∷ eqb late.delay (get_or (0 ∷ 1 ∷ 1 ∷ 2 ∷ 2 ∷ 1 ∷ []) c 0) ∷ []

tests_all : every 1 7 (λ w. either_way (λ a. either_way (λ b. either_way (λ c. either_way (λ d. either_way (λ e. all (tests w a b c d e))))))) ≡ true
unfolding every either_way tests closed
tests_all = refl

passed : (w : ℕ) → 1 ≤ w → w ≤ 7 → (a b c d e : Bool) → Each (tests w a b c d e)
passed w l u a b c d e =
    facts (tests w a b c d e)
    (whether _ (whether _ (whether _ (whether _ (whether _ (at 1 7 _ tests_all w l (omega arith)) a) b) c) d) e)

-- A test that passes exactly where something holds.
abbrev Tells : Bool → Type 0 → Type 0
Tells test P = (test ≡ true) ↔ P

both : (a b : Bool) {P Q : Type 0} → Tells a P → Tells b Q → Tells (a && b) (P × Q)
both a b p q = (λ e. (p.0 (and_left _ _ e), q.0 (and_right a _ e)), λ r. rw (p.1 r.0, q.1 r.1))

-- A number is k exactly where such a test passes.
exactly : (n k : ℕ) (test : Bool) {P : Type 0} → beq (eqb n k) test ≡ true → Tells test P → (n ≡ k) ↔ P
exactly n k test e t = (λ q. t.0 (sym (beq_true _ _ e) ∙ eq-eqb n k q), λ p. eqb-true n k (beq_true _ _ e ∙ t.1 p))

passes : (b : Bool) → Tells b (b ≡ true)
passes b = (λ e. e, λ e. e)

fails : (b : Bool) → Tells (not b) (b ≡ false)
fails b = (not-true b, λ e. rw e)

is : (w k : ℕ) → Tells (eqb w k) (w ≡ k)
is w k = (eqb-true w k, eq-eqb w k)

from : (limit t : ℕ) → Tells (leb limit t) (limit ≤ t)
from limit t = (leb-true limit t, le-leb limit t)

before : (limit t : ℕ) → Tells (ltb t limit) (t < limit)
before limit t = (ltb-true t limit, lt-ltb t limit)

not_before : (limit t : ℕ) → Tells (not (ltb t limit)) (limit ≤ t)
not_before limit t = (λ e. ltb-false t limit (not-true _ e), λ p. rw (le-ltb t limit p))

-- Why New Year comes when it does.
pub explained :
    (w t : ℕ) (isLeap afterLeap : Bool) → 1 ≤ w → w ≤ 7 →
    Explained w t isLeap afterLeap (delayed w t isLeap afterLeap).delay (delayed w t isLeap afterLeap).cause
unfolding tests
explained w t isLeap afterLeap l u =
    let nine = leb 9924 t in
    let fifteen = leb 16789 t in
    let beforeNoon = ltb t 19440 in
    let p = passed w l u (not isLeap) afterLeap nine fifteen beforeNoon in
    let q = p.1.1.1 in
    rw (by_times_lem w t isLeap afterLeap)
    (record {
      noon = exactly _ 1 _ p.0 (both (not beforeNoon) _ (not_before 19440 t) (passes _));
      on_weekday = exactly _ 2 _ p.1.0 (both beforeNoon _ (before 19440 t) (passes _));
      noon_then_weekday_is = exactly _ 3 _ p.1.1.0 (both (not beforeNoon) _ (not_before 19440 t) (passes _));
      tuesday = exactly _ 4 _ q.0 (both (not isLeap && eqb w 3) (nine && beforeNoon) (both (not isLeap) (eqb w 3) (fails isLeap) (is w 3)) (both nine beforeNoon (from 9924 t) (before 19440 t)));
      monday = exactly _ 5 _ q.1.0 (both (afterLeap && eqb w 2) (fifteen && beforeNoon) (both afterLeap (eqb w 2) (passes afterLeap) (is w 2)) (both fifteen beforeNoon (from 16789 t) (before 19440 t)));
      known = leb-true _ _ q.1.1.0;
      days = eqb-true _ _ q.1.1.1.0;
    })
