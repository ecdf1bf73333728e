-- How an answer's promise is shown: by what it tests, one test after another.
use mathlib.Core.Path.{◌≡◌, refl, sym, ◌∙◌}
use mathlib.Core.Bool.{Bool, true, false, ◌||◌, cond, false≢true}
use mathlib.Core.List.{List, [], ◌∷◌}
use mathlib.Core.Logic.{◌↔◌, inl, inr, ⊎_elim, by_cases}
use Prim.Native.Nat.{ℕ, ◌≤◌}
use native.Mathlib.Omega.{arith}
use native.Mathlib.Decide.{dec_le}
use borrow.Author.Tests.{le-ltb}
use Rattle.laws.specs.Runs.{outside}
use Rattle.laws.specs.Promise.{Asked, ◌else◌, FirstUnmet, Unmet, Rising, Promised, Smallest, SmallestAfter}
use Rattle.laws.proofs.Tests.{within}

-- A test that catches what is not met.
pub record Catches (test : Bool) (met : Type 0) : Type 0 where
  pub passes : test ≡ false → met
  pub catches : test ≡ true → ¬ met

-- What is met passes.
pub let_pass : {test : Bool} {met : Type 0} → Catches test met → met → test ≡ false
let_pass {test} {met} t m = go test t
  where
    go : (test : Bool) → Catches test met → test ≡ false
    go true t = absurd (t.catches refl m)
    go false t = refl

-- What lies outside a range is caught.
pub ranged : (a b x : ℕ) → Catches (outside a b x) ((a ≤ x) × (x ≤ b))
ranged a b x =
    record {
      passes = within a b x;
      catches = λ e m. false≢true (rw (le-ltb x a m.0, le-ltb b x m.1) at e);
    }

-- Two tests that catch the same are one.
pub caught_alike : {s t : Bool} {M N : Type 0} → Catches s M → Catches t N → (M → N) → (N → M) → s ≡ t
caught_alike {s} {t} {M} {N} p q f g = go s t p q
  where
    go : (s t : Bool) → Catches s M → Catches t N → s ≡ t
    go true true p q = refl
    go true false p q = absurd (p.catches refl (g (q.passes refl)))
    go false true p q = absurd (q.catches refl (f (p.passes refl)))
    go false false p q = refl

-- Two things are asked together.
pub either : {s t : Bool} {M N : Type 0} → Catches s M → Catches t N → Catches (s || t) (M × N)
either {s} {t} {M} {N} p q = go s t p q
  where
    go : (s t : Bool) → Catches s M → Catches t N → Catches (s || t) (M × N)
    go true t p q = record { passes = λ e. absurd (false≢true (sym e)); catches = λ _ m. p.catches refl m.0 }
    go false t p q = record { passes = λ e. (p.passes refl, q.passes e); catches = λ e m. q.catches e m.1 }

module _ {A : Type 0} {number : A → ℕ} {Values : A → Type 0} {Besides : ℕ → A → Type 0} where
  -- Nothing is asked: the answer is done.
  pub answered : {r : A} → number r ≡ 0 → Values r → Promised number [] Values Besides r
  answered z v =
      record {
        done = (λ _. tt, λ _. z);
        values = λ _. v;
        refused = λ n l. (λ e. absurd (omega arith), λ e. absurd e);
        besides = λ n e. absurd e;
      }

  -- One thing is asked before the others, whose promise may take it for met.
  by_test :
      {a : Asked} {asked : List Asked} (x r : A) (test : Bool) → (test ≡ false → a.met) → (test ≡ true → ¬ a.met) →
      1 ≤ a.refusal → number x ≡ a.refusal → Besides a.refusal x →
      (a.met → Promised number asked Values Besides r) → Promised number (a ∷ asked) Values Besides (cond test x r)
  by_test x r true p c l e z f =
      let no = c refl in
      record {
        done = (λ d. absurd (omega arith), λ m. absurd (no m.0));
        values = λ m. absurd (no m.0);
        refused = λ n k. (λ d. inl (no, sym e ∙ d), ⊎_elim (λ u. e ∙ u.1) (λ u. absurd (no u.0)));
        besides = λ n. ⊎_elim (λ u. rw u.1 at z) (λ u. absurd (no u.0));
      }
  by_test x r false p c l e z f =
      let yes = p refl in
      let later = f yes in
      record {
        done = (λ d. (yes, later.done.0 d), λ m. later.done.1 m.1);
        values = λ m. later.values m.1;
        refused = λ n k. (λ d. inr (yes, (later.refused n k).0 d), ⊎_elim (λ u. absurd (u.0 yes)) (λ u. (later.refused n k).1 u.1));
        besides = λ n. ⊎_elim (λ u. absurd (u.0 yes)) (λ u. later.besides n u.1);
      }

  pub asks :
      {a : Asked} {asked : List Asked} {r : A} {test : Bool} (x : A) → Catches test a.met →
      1 ≤ a.refusal → number x ≡ a.refusal → Besides a.refusal x →
      (a.met → Promised number asked Values Besides r) → Promised number (a ∷ asked) Values Besides (cond test x r)
  asks {r} {test} x t = by_test x r test t.passes t.catches

  -- Where the first thing asked is met, the others alone are asked.
  later : {M : Type 0} {k : ℕ} {asked : List Asked} {r : A} → M → Promised number (M else k ∷ asked) Values Besides r → Promised number asked Values Besides r
  later m p =
      record {
        done = (λ z. (p.done.0 z).1, λ a. p.done.1 (m, a));
        values = λ a. p.values (m, a);
        refused = λ n l. (λ e. ⊎_elim (λ u. absurd (u.0 m)) (λ u. u.1) ((p.refused n l).0 e), λ u. (p.refused n l).1 (inr (m, u)));
        besides = λ n u. p.besides n (inr (m, u));
      }

  -- The first thing asked may be said in other words and, where it is met, so may the others.
  pub restated :
      {M N : Type 0} {k : ℕ} {asked others : List Asked} {r : A} → M ↔ N →
      (N → Promised number asked Values Besides r → Promised number others Values Besides r) →
      Promised number (M else k ∷ asked) Values Besides r → Promised number (N else k ∷ others) Values Besides r
  restated {N} {others} {r} same after p =
      let rest : N → Promised number others Values Besides r = λ m. after m (later (same.1 m) p) in
      record {
        done = (λ z. let m = same.0 (p.done.0 z).0 in (m, (rest m).done.0 z), λ a. (rest a.0).done.1 a.1);
        values = λ a. (rest a.0).values a.1;
        refused =
            λ n l. (
              λ e. ⊎_elim (λ u. inl ((λ m. u.0 (same.1 m)), u.1)) (λ u. let m = same.0 u.0 in inr (m, ((rest m).refused n l).0 e)) ((p.refused n l).0 e),
              ⊎_elim (λ u. (p.refused n l).1 (inl ((λ m. u.0 (same.0 m)), u.1))) (λ u. ((rest u.0).refused n l).1 u.1),
            );
        besides = λ n. ⊎_elim (λ u. p.besides n (inl ((λ m. u.0 (same.0 m)), u.1))) (λ u. (rest u.0).besides n u.1);
      }

-- Where the numbers rise the first that is not met is the smallest.
not_below : (asked : List Asked) (m n : ℕ) → Rising m asked → Unmet asked n → m ≤ n
not_below [] m n r u = absurd u
not_below (a ∷ asked) m n r u =
    ⊎_elim (λ v. omega (arith, r.0, v.1)) (λ v. omega (arith, r.0, not_below asked a.refusal n r.1 v)) u

first_smallest : (asked : List Asked) (m n k : ℕ) → Rising m asked → FirstUnmet asked n → Unmet asked k → n ≤ k
first_smallest [] m n k r f u = absurd f
first_smallest (a ∷ asked) m n k r f u =
    ⊎_elim
    (λ g. ⊎_elim (λ v. omega (arith, g.1, v.1)) (λ v. omega (arith, g.1, not_below asked a.refusal k r.1 v)) u)
    (λ g. ⊎_elim (λ v. absurd (v.0 g.0)) (λ v. first_smallest asked a.refusal n k r.1 g.1 v) u)
    f

pub smallest :
    {A : Type 0} {number : A → ℕ} {asked : List Asked} {Values : A → Type 0} {Besides : ℕ → A → Type 0} {r : A}
    (p : Promised number asked Values Besides r) → Rising 1 asked → Smallest p
smallest {number} {asked} {r} p rising k u =
    by_cases (dec_le 1 (number r))
    (λ l. first_smallest asked 1 (number r) k rising ((p.refused (number r) l).0 refl) u)
    (λ l. omega arith)

pub smallest_after :
    {A : Type 0} {number : A → ℕ} {a : Asked} {asked : List Asked} {Values : A → Type 0} {Besides : ℕ → A → Type 0} {r : A}
    (p : Promised number (a ∷ asked) Values Besides r) → Rising 1 asked → SmallestAfter p
smallest_after {number} {asked} {r} p rising m k u =
    by_cases (dec_le 1 (number r))
    (λ l.
    ⊎_elim (λ v. absurd (v.0 m)) (λ v. first_smallest asked 1 (number r) k rising v.1 u) ((p.refused (number r) l).0 refl))
    (λ l. omega arith)
