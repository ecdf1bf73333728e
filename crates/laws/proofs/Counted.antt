-- Of a row that does not fall, those that have begun are those up to the last that has.
use mathlib.Core.Path.{◌≡◌, refl, sym, ◌∙◌}
use mathlib.Core.Logic.{by_cases}
use Prim.Native.Nat.{ℕ, zero, suc, ◌+◌, ◌≤◌, ◌<◌}
use native.Mathlib.Omega.{arith}
use native.Mathlib.Decide.{ℕ_discrete}
use borrow.Author.Tests.{le-leb, lt-leb}
use lib.Dec.{leb}
use Rattle.laws.specs.Begun.{begun}
use Rattle.laws.proofs.Tests.{cond_le}

-- From 1 to n the row never falls.
abbrev pub NeverFalls : (ℕ → ℕ) → ℕ → Type 0
NeverFalls f n = (a b : ℕ) → 1 ≤ a → a ≤ b → b ≤ n → f a ≤ f b

-- h is the last of the n that begins on or before j.
pub record Last (f : ℕ → ℕ) (n j h : ℕ) : Type 0 where
  pub some : 1 ≤ h
  pub within : h ≤ n
  pub from : f h ≤ j
  pub next : h < n → j < f (h + 1)

all_begun : (f : ℕ → ℕ) (n j h k : ℕ) → NeverFalls f n → Last f n j h → k ≤ h → begun f k j ≡ k
unfolding begun
all_begun f n j h zero r i p = refl
all_begun f n j h (suc k) r i p =
    let e = le-leb (f (suc k)) j (omega (arith, r (suc k) h (omega arith) p i.within)) in
    rw (e, all_begun f n j h k r i (omega arith)) (omega arith)

none_more : (f : ℕ → ℕ) (n j h k : ℕ) → NeverFalls f n → Last f n j h → h ≤ k → k ≤ n → begun f k j ≡ h
unfolding begun
none_more f n j h zero r i p u = absurd (omega (arith, i.some))
none_more f n j h (suc k) r i p u =
    by_cases (ℕ_discrete h (suc k))
    (λ q. all_begun f n j h (suc k) r i (omega arith) ∙ sym q)
    (λ q.
    let e = lt-leb (f (suc k)) j (omega (arith, i.next (omega arith), r (h + 1) (suc k) (omega arith) (omega arith) u)) in
    rw (e, none_more f n j h k r i (omega arith) (omega arith)) (omega arith))

pub begun_is : (f : ℕ → ℕ) (n j h : ℕ) → NeverFalls f n → Last f n j h → begun f n j ≡ h
begun_is f n j h r i = none_more f n j h n r i i.within (omega arith)

-- No more have begun than there are.
pub begun_few : (f : ℕ → ℕ) (n j : ℕ) → begun f n j ≤ n
unfolding begun
begun_few f zero j = omega arith
begun_few f (suc n) j = omega (arith, begun_few f n j, cond_le (leb (f (suc n)) j) 1 0 1 (omega arith) (omega arith))
