-- What a search finds, and where a run begins and ends.
use mathlib.Core.Path.{◌≡◌, refl}
use mathlib.Core.Bool.{Bool, true, false, not, cond}
use mathlib.Core.Logic.{by_cases}
use Prim.Native.Nat.{ℕ, zero, suc, ◌+◌, ◌-◌, ◌≤◌, ◌<◌}
use native.Mathlib.Omega.{arith}
use native.Mathlib.Decide.{ℕ_discrete, dec_lt}
use borrow.Author.Tests.{not-true, not-false}
use Rattle.laws.specs.Search.{seek, seek_not, run_start, Run}
use Rattle.laws.proofs.Tests.{clash}

-- One step of a search.
pub seek_here : (p : ℕ → Bool) (n j : ℕ) → p j ≡ true → seek p (suc n) j ≡ j
unfolding seek
seek_here p n j e = rw e

pub seek_on : (p : ℕ → Bool) (n j : ℕ) → p j ≡ false → seek p (suc n) j ≡ seek p n (suc j)
unfolding seek
seek_on p n j e = rw e

-- The first pass, where k is the first.
pub seek_is : (p : ℕ → Bool) (n j k : ℕ) → ((d : ℕ) → j ≤ d → d < k → p d ≡ false) → p k ≡ true → j ≤ k → k < j + n → seek p n j ≡ k
seek_is p zero j k f e l u = absurd (omega arith)
seek_is p (suc n) j k f e l u =
    by_cases (ℕ_discrete j k)
    (λ q. rw q (seek_here p n k e))
    (λ q. rw (seek_on p n j (f j (omega arith) (omega arith))) (seek_is p n (suc j) k (λ d a b. f d (omega arith) b) e (omega arith) (omega arith)))

-- No pass.
pub seek_none : (p : ℕ → Bool) (n j : ℕ) → ((d : ℕ) → j ≤ d → d < j + n → p d ≡ false) → seek p n j ≡ j + n
unfolding seek
seek_none p zero j f = omega arith
seek_none p (suc n) j f =
    rw (seek_on p n j (f j (omega arith) (omega arith)), seek_none p n (suc j) (λ d a b. f d (omega arith) (omega arith))) (omega arith)

-- What the result of a search tells: it lies in the span searched, nothing before it passes, and it does if it is no end.
pub record Seek (p : ℕ → Bool) (n j k : ℕ) : Type 0 where
  pub low : j ≤ k
  pub high : k ≤ j + n
  pub none : (d : ℕ) → j ≤ d → d < k → p d ≡ false
  pub pass : k < j + n → p k ≡ true

pub seek_tells : (p : ℕ → Bool) (n j : ℕ) → Seek p n j (seek p n j)
unfolding seek
seek_tells p zero j = record { low = omega arith; high = omega arith; none = λ d a b. absurd (omega arith); pass = λ h. absurd (omega arith) }
seek_tells p (suc n) j = step (p j) refl (seek_tells p n (suc j))
  where
    step : (b : Bool) → p j ≡ b → Seek p n (suc j) (seek p n (suc j)) → Seek p (suc n) j (cond b j (seek p n (suc j)))
    step true e s = record { low = omega arith; high = omega arith; none = λ d a b. absurd (omega arith); pass = λ _. e }
    step false e s =
        record {
          low = omega (arith, s.low);
          high = omega (arith, s.high);
          none = λ d a b. by_cases (ℕ_discrete d j) (λ q. rw q e) (λ q. s.none d (omega arith) b);
          pass = λ h. s.pass (omega arith);
        }

-- The first failure is the first pass of the opposite.
pub seek_not_is : (p : ℕ → Bool) (n j k : ℕ) → ((d : ℕ) → j ≤ d → d < k → p d ≡ true) → p k ≡ false → j ≤ k → k < j + n → seek_not p n j ≡ k
unfolding seek_not
seek_not_is p n j k f e l u = seek_is (λ d. not (p d)) n j k (λ d a b. rw (f d a b)) (rw e) l u

-- A run begins where the passes do.
pub run_start_lem : (p : ℕ → Bool) (n m : ℕ) → m ≤ n → ((d : ℕ) → m ≤ d → d < n → p d ≡ true) → 1 ≤ m → p (m - 1) ≡ false → run_start p n ≡ m
unfolding run_start
run_start_lem p zero m l f o e = absurd (omega arith)
run_start_lem p (suc k) m l f o e =
    by_cases (ℕ_discrete m (suc k))
    (λ q. let t : m - 1 ≡ k = omega arith in rw (rw t at e, q))
    (λ q. rw (f k (omega arith) (omega arith)) (run_start_lem p k m (omega arith) (λ d a b. f d a (omega arith)) o e))

-- From any place in it a run is found.
module _ (p : ℕ → Bool) (first count k n : ℕ) (r : Run p first count) (l : first ≤ k) (u : k < first + count) (o : 1 ≤ first) where
  pub run_begins : run_start p k ≡ first
  run_begins = run_start_lem p k first l (λ d a b. r.passes d a (omega arith)) o r.before

  pub run_ends : first + count < k + n → seek_not p n k ≡ first + count
  run_ends h = seek_not_is p n k (first + count) (λ d a b. r.passes d (omega arith) b) r.after (omega arith) h

-- What the start of a run tells: it is no later than the run's end, all from it on pass, and the one before it fails.
pub record Started (p : ℕ → Bool) (k s : ℕ) : Type 0 where
  pub high : s ≤ k
  pub passes : (d : ℕ) → s ≤ d → d < k → p d ≡ true
  pub before : 1 ≤ s → p (s - 1) ≡ false

pub start_tells : (p : ℕ → Bool) (k : ℕ) → Started p k (run_start p k)
unfolding run_start
start_tells p zero = record { high = omega arith; passes = λ d a b. absurd (omega arith); before = λ h. absurd (omega arith) }
start_tells p (suc k) = step (p k) refl (start_tells p k)
  where
    step : (b : Bool) → p k ≡ b → Started p k (run_start p k) → Started p (suc k) (cond b (run_start p k) (suc k))
    step true e t =
        record {
          high = omega (arith, t.high);
          passes = λ d a b. by_cases (ℕ_discrete d k) (λ q. rw q e) (λ q. t.passes d a (omega arith));
          before = t.before;
        }
    step false e t = record { high = omega arith; passes = λ d a b. absurd (omega arith); before = λ _. let z : suc k - 1 ≡ k = omega arith in rw z e }

-- The run around a pass n: from its start to the first failure, where that is found.
pub run_around : (p : ℕ → Bool) (n m : ℕ) → p n ≡ true → 1 ≤ run_start p n → seek_not p m n < n + m → (n < seek_not p m n) × Run p (run_start p n) (seek_not p m n - run_start p n)
unfolding seek_not
run_around p n m e o h =
    let s = run_start p n in
    let k = seek_not p m n in
    let t = start_tells p n in
    let f = seek_tells (λ d. not (p d)) m n in
    let fails : p k ≡ false = not-true (p k) (f.pass h) in
    let far : n < k = by_cases (ℕ_discrete n k) (λ q. absurd (clash (p k) (rw q at e) fails)) (λ q. omega (arith, f.low)) in
    let z : s + (k - s) ≡ k = omega (arith, t.high) in (
      far,
      record {
        some = omega (arith, t.high);
        passes =
            λ d a b. by_cases (dec_lt d n) (λ q. t.passes d a q) (λ q. not-false (p d) (f.none d (omega arith) (omega (arith, t.high))));
        before = t.before o;
        after = rw z fails;
      },
    )

-- Runs that begin at one place are as long.
not_longer : (p : ℕ → Bool) (f c d : ℕ) → Run p f c → Run p f d → c < d → ⊥
not_longer p f c d r s l = clash (p (f + c)) (s.passes (f + c) (omega arith) (omega arith)) r.after

pub as_long : (p : ℕ → Bool) (f c d : ℕ) → Run p f c → Run p f d → c ≡ d
as_long p f c d r s =
    by_cases (dec_lt c d)
    (λ l. absurd (not_longer p f c d r s l))
    (λ l. by_cases (dec_lt d c) (λ k. absurd (not_longer p f d c s r k)) (λ k. omega arith))
