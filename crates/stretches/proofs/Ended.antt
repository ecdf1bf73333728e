-- A run is listed when it has ended: what the steps list of a year is the list of its stretches, for any table that passes
-- the check.
use mathlib.Core.Path.{◌≡◌, refl, ◌∙◌}
use mathlib.Core.Bool.{Bool, true, false, ◌&&◌, not, cond, and-false}
use mathlib.Core.List.{List, [], ◌∷◌, ◌++◌, append-nil}
use mathlib.Core.Logic.{by_cases}
use Prim.Native.Nat.{ℕ, zero, suc, ◌+◌, ◌-◌, ◌≤◌, ◌<◌}
use native.Mathlib.Omega.{arith}
use native.Mathlib.Decide.{ℕ_discrete, dec_lt}
use borrow.Author.Tests.{lt-ltb, le-ltb}
use lib.Dec.{ltb}
use Rattle.laws.specs.Search.{Run, run_start}
use Rattle.laws.proofs.Found.{start_tells, run_start_lem}
use Rattle.newyear.proofs.Lengths.{length_in}
use Rattle.rest.proofs.RestOfYear.{eve_works, last_day_works}
use Rattle.stretches.specs.Stretches.{begins, row_at, rows, stretch_rows}
use Rattle.stretches.specs.Steps.{run_before, rows_at}
use Rattle.stretch.proofs.Year.{TableYear, rest, start, len, here, placed}
use Rattle.stretches.proofs.WholeList.{first_row}

module _ (y : TableYear) where
  -- The day before a day of the year.
  day_before : (k : ℕ) (b : Bool) → k < len y → (1 ≤ k → here y (k - 1) ≡ b) → (k ≡ 0 → b ≡ false) → rest y (start y + k - 1) ≡ b
  day_before k b p f g =
      by_cases (ℕ_discrete k 0)
      (λ q. let e : start y + k - 1 ≡ start y - 1 = omega arith in rw (e, g q) (eve_works y.table y.ok y.year y.low (omega arith)))
      (λ q.
      let e : start y + k - 1 ≡ start y + (k - 1) = omega arith in
      rw e (placed y (k - 1) (omega arith) ∙ f (omega arith)))

  module _ (k : ℕ) (p : k < len y) where
    abbrev s : ℕ
    s = run_start (here y) k

    -- The run that ends with the day before day k, where there is one and day k is no rest day.
    ended : s < k → here y k ≡ false → Run (rest y) (start y + s) (k - s)
    ended o e =
        let t = start_tells (here y) k in
        let z : start y + s + (k - s) ≡ start y + k = omega arith in
        record {
          some = omega arith;
          passes =
              λ d a b.
              let q : start y + (d - start y) ≡ d = omega arith in
              rw q at (placed y (d - start y) (omega arith) ∙ t.passes (d - start y) (omega arith) (omega arith));
          before = day_before s false (omega arith) t.before (λ _. refl);
          after = rw z (placed y k p ∙ e);
        }

    -- A day of a run that has begun before it begins none.
    goes_on : s < k → row_at (rest y) (start y + k) ≡ []
    unfolding row_at begins
    goes_on o =
        let b = day_before k true p (λ q. (start_tells (here y) k).passes (k - 1) (omega arith) (omega arith)) (λ q. absurd (omega arith)) in
        rw b (simp and-false)

    works : here y k ≡ false → row_at (rest y) (start y + k) ≡ []
    unfolding row_at begins
    works e = rw (placed y k p ∙ e)

  -- The runs that have ended, and the one that goes on.
  so_far : (k : ℕ) → k ≤ len y → rows (rest y) (start y) k ≡ rows_at (here y) (start y) k ++ cond (ltb (run_start (here y) k) k) (row_at (rest y) (start y + run_start (here y) k)) []
  unfolding rows rows_at run_start run_before
  so_far zero p = refl
  so_far (suc k) p = rw (so_far k (omega arith)) (go (here y k) refl)
    where
      before : List ℕ
      before = rows_at (here y) (start y) k

      go :
          (b : Bool) → here y k ≡ b →
          (before ++ cond (ltb (run_start (here y) k) k) (row_at (rest y) (start y + run_start (here y) k)) []) ++ row_at (rest y) (start y + k)
          ≡ (before ++ cond (not b && ltb 0 (k - run_start (here y) k)) ((start y + k - (k - run_start (here y) k)) ∷ (k - run_start (here y) k) ∷ []) [])
          ++ cond (ltb (cond b (run_start (here y) k) (suc k)) (suc k)) (row_at (rest y) (start y + cond b (run_start (here y) k) (suc k))) []
      go true e =
          let t = start_tells (here y) k in
          by_cases (dec_lt (run_start (here y) k) k)
          (λ o. rw (lt-ltb (run_start (here y) k) k o, lt-ltb (run_start (here y) k) (suc k) (omega arith), goes_on k p o) (simp append-nil))
          (λ o.
          let q : run_start (here y) k ≡ k = omega (arith, t.high) in
          rw (le-ltb (run_start (here y) k) k (omega arith), lt-ltb (run_start (here y) k) (suc k) (omega (arith, t.high)), q))
      go false e =
          let t = start_tells (here y) k in
          rw (works k p e, le-ltb (suc k) (suc k) (omega arith))
          (by_cases (dec_lt (run_start (here y) k) k)
          (λ o.
          let z : start y + k - (k - run_start (here y) k) ≡ start y + run_start (here y) k = omega arith in
          rw (lt-ltb (run_start (here y) k) k o, lt-ltb 0 (k - run_start (here y) k) (omega arith), first_row y.table y.ok _ _ (ended k p o e), z))
          (λ o. rw (le-ltb (run_start (here y) k) k (omega arith), le-ltb 0 (k - run_start (here y) k) (omega arith))))

  -- At the year's end every run has ended: its last day is no rest day.
  pub stretches_same : stretch_rows y.table y.year ≡ rows_at (here y) (start y) (len y)
  unfolding stretch_rows
  stretches_same =
      let k = length_in y.year y.low (omega arith) in
      let e = run_start_lem (here y) (len y) (len y) (omega arith) (λ d a b. absurd (omega arith)) (omega arith) (last_day_works y.table y.ok y.year y.low y.high) in
      so_far (len y) (omega arith) ∙ rw (e, le-ltb (len y) (len y) (omega arith)) (simp append-nil)
