-- The fourteen kinds: each occurs, they are numbered in their order, and the number alone tells New Year's weekday and
-- the year's length.
use mathlib.Core.Path.{◌≡◌, refl, sym, ◌∙◌}
use mathlib.Core.Bool.{true, beq}
use mathlib.Core.Logic.{◌↔◌, ◌⊎◌, inl, inr, ⊎_elim, by_cases}
use Prim.Native.Nat.{ℕ, ◌+◌, ◌-◌, ◌≤◌, ◌<◌}
use native.Mathlib.Omega.{arith}
use native.Mathlib.Decide.{dec_lt}
use borrow.Author.Tests.{eqb-true, lt-ltb, ltb-true}
use lib.Dec.{eqb, ltb}
use lib.ListN.{get_or}
use Rattle.laws.specs.Runs.{every, each_of, elem, place_in}
use Rattle.laws.specs.Search.{seek}
use Rattle.laws.proofs.Tests.{at, of, each_at, place_of, beq_true}
use Rattle.laws.proofs.Found.{seek_tells}
use Rattle.laws.proofs.Promises.{ranged, let_pass}
use Rattle.days.specs.Weekday.{weekday}
use Rattle.molad.specs.Years.{last_year, InYears}
use Rattle.newyear.specs.NewYear.{new_year, year_length}
use Rattle.newyear.specs.Kinds.{kind_code, kinds, IsKind, kind_of, kind_number}
use Rattle.newyear.specs.Answers.{kind_told, kind_answer}
use Rattle.newyear.specs.Promises.{KindBefore, KindOccurs, OneKind}
use Rattle.newyear.proofs.Lengths.{length_in, kind_in}
use Rattle.newyear.proofs.Quick.{quick, new_year_quick}
use Rattle.newyear.proofs.Answers.{kind_promised}

kind_told_lem : (h : ℕ) → InYears h → kind_answer h ≡ kind_told h
unfolding kind_answer
kind_told_lem h y = rw (let_pass (ranged 1 last_year h) y)

-- Each of the fourteen occurs in the first 27 years.
quick_kind : ℕ → ℕ
quick_kind h = kind_code (weekday (quick h)) (quick (h + 1) - quick h)

-- The first year of kind k.
seen : ℕ → ℕ
seen k = seek (λ h. eqb (quick_kind h) k) 27 1

seen_all : each_of kinds (λ k. ltb (seen k) 28) ≡ true
unfolding each_of seen seek quick_kind quick
seen_all = refl

seen_there : (k : ℕ) → IsKind k → ((1 ≤ seen k) × (seen k ≤ 27)) × (kind_of (seen k) ≡ k)
unfolding seen kind_of year_length quick_kind
seen_there k i =
    let t = seek_tells (λ h. eqb (quick_kind h) k) 27 1 in
    let u : seen k < 28 = ltb-true _ _ (of kinds (λ k. ltb (seen k) 28) seen_all k i) in
    ((t.low, omega (arith, u)), rw (new_year_quick (seen k) t.low, new_year_quick (seen k + 1) (omega arith)) (eqb-true _ _ (t.pass u)))

-- Each number is that of a kind.
numbered : every 1 14 (λ n. eqb (kind_number (get_or kinds (n - 1) 0)) n) ≡ true
unfolding every kind_number place_in
numbered = refl

kinds_all : each_of kinds (λ k. elem k kinds) ≡ true
unfolding each_of
kinds_all = refl

pub each_kind_occurs : (n : ℕ) → 1 ≤ n → n ≤ 14 → KindOccurs n
each_kind_occurs n l u =
    let k = get_or kinds (n - 1) 0 in
    let s = seen_there k (each_at kinds (λ k. elem k kinds) kinds_all (n - 1) (omega arith)) in
    let e = kind_told_lem (seen k) (s.0.0, omega (arith, s.0.1)) in
    record {
      year = seen k;
      early = s.0.1;
      done = rw e;
      told = rw (e, s.1) (eqb-true _ _ (at 1 14 (λ n. eqb (kind_number (get_or kinds (n - 1) 0)) n) numbered n l (omega arith)));
    }

-- A lower number is a kind that comes before.
order : each_of kinds (λ k. each_of kinds (λ m. beq (ltb (kind_number k) (kind_number m)) (ltb k m))) ≡ true
unfolding each_of kind_number place_in
order = refl

ordered : (k m : ℕ) → IsKind k → IsKind m → ltb (kind_number k) (kind_number m) ≡ ltb k m
ordered k m i j =
    beq_true _ _
    (of kinds (λ m. beq (ltb (kind_number k) (kind_number m)) (ltb k m))
    (of kinds (λ k. each_of kinds (λ m. beq (ltb (kind_number k) (kind_number m)) (ltb k m))) order k i) m j)

by_weekday : (v w a b : ℕ) → a ≤ 385 → b ≤ 385 → (kind_code v a < kind_code w b) ↔ ((v < w) ⊎ ((v ≡ w) × (a < b)))
by_weekday v w a b p q =
    (λ l. by_cases (dec_lt v w) inl (λ n. inr (omega arith, omega arith)), ⊎_elim (λ l. omega arith) (λ e. omega (arith, e.0, e.1)))

-- The numbers go by weekday, from Sunday on, and then by length.
pub kinds_in_order :
    (g h : ℕ) → (kind_answer g).refusal ≡ 0 → (kind_answer h).refusal ≡ 0 →
    ((kind_answer g).kind < (kind_answer h).kind) ↔ KindBefore (kind_answer g) (kind_answer h)
unfolding kind_of
kinds_in_order g h a b =
    let y = ((kind_promised g).done.0 a).0 in
    let z = ((kind_promised h).done.0 b).0 in
    let e = ordered (kind_of g) (kind_of h) (kind_in g y.0 (omega arith)) (kind_in h z.0 (omega arith)) in
    let t = by_weekday (weekday (new_year g)) (weekday (new_year h)) (year_length g) (year_length h) (length_in g y.0 (omega arith)).long (length_in h z.0 (omega arith)).long in
    rw (kind_told_lem g y, kind_told_lem h z) (λ l. t.0 (ltb-true _ _ (sym e ∙ lt-ltb _ _ l)), λ l. ltb-true _ _ (e ∙ lt-ltb _ _ (t.1 l)))

-- Years of one kind have one weekday of New Year and one length.
pub record Alike (g h : ℕ) : Type 0 where
  pub first : InYears g
  pub second : InYears h
  pub same_weekday : weekday (new_year g) ≡ weekday (new_year h)
  pub same_length : year_length g ≡ year_length h

pub alike : (g h : ℕ) → OneKind g h → Alike g h
unfolding kind_of kind_number
alike g h o =
    let y = ((kind_promised g).done.0 o.first).0 in
    let z = ((kind_promised h).done.0 o.second).0 in
    let same = rw (kind_told_lem g y, kind_told_lem h z) at o.same in
    let k : kind_of g ≡ kind_of h = sym (place_of kinds (kind_of g) (kind_in g y.0 (omega arith))).2 ∙ rw same (place_of kinds (kind_of h) (kind_in h z.0 (omega arith))).2 in
    let p = length_in g y.0 (omega arith) in
    let q = length_in h z.0 (omega arith) in
    record { first = y; second = z; same_weekday = omega (arith, p.long, q.long, k); same_length = omega (arith, p.long, q.long, k) }
