-- Which rows a sheet has, and what a walk through it hands out.
use mathlib.Core.Path.{◌≡◌, refl, sym, ◌∙◌}
use mathlib.Core.Bool.{Bool, true, false, and-false, false≢true}
use mathlib.Core.List.{List}
use mathlib.Core.Logic.{by_cases}
use Prim.Native.Nat.{ℕ, zero, suc, ◌+◌, ◌-◌, ◌≤◌, ◌<◌}
use native.Mathlib.Omega.{arith}
use native.Mathlib.Decide.{ℕ_discrete}
use borrow.Author.Tests.{ltb-true, lt-ltb, le-ltb}
use lib.Dec.{ltb}
use lib.ListN.{length}
use Rattle.laws.proofs.Tests.{and_left, and_right}
use Rattle.accepted.specs.Check.{count_told, loaded_refusal}
use Rattle.loaded.specs.Walk.{row_place, has_row, row_read, row_given, row_after, ended_row, begun_at}
use Rattle.loaded.specs.Promises.{RowThere, NoMore, StepOf, row_after_calls, handed_out, WalkOf}
use Rattle.accepted.proofs.Accepted.{where_accepted, where_refused}
use Rattle.accepted.proofs.Refusal.{accepted}

module _ (bytes : List ℕ) (k : ℕ) where
  -- Its bytes are not there.
  pub no_room : length bytes ≤ row_place bytes k + 5 → has_row bytes k ≡ false
  unfolding has_row
  no_room p = rw (le-ltb (row_place bytes k + 5) (length bytes) p) (and-false (ltb k (count_told bytes)))

  -- The header does not count it.
  pub not_counted : count_told bytes ≤ k → has_row bytes k ≡ false
  unfolding has_row
  not_counted p = rw (le-ltb k (count_told bytes) p)

  -- Where the header counts it, its bytes decide.
  pub counted : k < count_told bytes → has_row bytes k ≡ ltb (row_place bytes k + 5) (length bytes)
  unfolding has_row
  counted p = rw (lt-ltb k (count_told bytes) p)

  pub row_there : has_row bytes k ≡ true → RowThere bytes k
  unfolding has_row
  row_there e = (ltb-true _ _ (and_left _ _ e), omega (arith, ltb-true (row_place bytes k + 5) (length bytes) (and_right (ltb k (count_told bytes)) _ e)))

  has : RowThere bytes k → has_row bytes k ≡ true
  has t = counted t.0 ∙ lt-ltb (row_place bytes k + 5) (length bytes) (omega (arith, t.1))

  -- What is given, and where the walker then is, by whether there is such a row.
  step_by : (b : Bool) → has_row bytes k ≡ b → StepOf bytes k
  unfolding row_given row_after
  step_by true e = record { row = λ _. rw e ((refl, (refl, (refl, refl))), refl); none = λ u. absurd (u (row_there e)) }
  step_by false e = record { row = λ t. absurd (false≢true (sym e ∙ has t)); none = λ _. rw e ((refl, (refl, (refl, refl))), refl) }

  pub step_of : StepOf bytes k
  step_of = step_by (has_row bytes k) refl

-- A walker that can still go on has gone on.
one_on : (bytes : List ℕ) (k n : ℕ) (b : Bool) → has_row bytes k ≡ b → (RowThere bytes k → n ≤ k) → RowThere bytes (row_after bytes k) → suc n ≤ row_after bytes k
unfolding row_after
one_on bytes k n true e f t = rw e (omega (arith, f (row_there bytes k e)))
one_on bytes k n false e f t = absurd (false≢true (sym e ∙ has bytes k (rw e at t)))

module _ (bytes : List ℕ) where
  -- Where there is no such row a walker stays, for ever.
  stays : (k : ℕ) → (¬ RowThere bytes k) → (n : ℕ) → row_after_calls bytes k n ≡ k
  unfolding row_after_calls
  stays k u zero = refl
  stays k u (suc n) = rw (stays k u n) ((step_of bytes k).none u).1

  module _ (k : ℕ) where
    -- Until it has ended it goes a row on at each call.
    goes_on : (n : ℕ) → RowThere bytes (row_after_calls bytes k n) → n ≤ row_after_calls bytes k n
    unfolding row_after_calls
    goes_on zero t = omega arith
    goes_on (suc n) t = one_on bytes (row_after_calls bytes k n) n (has_row bytes (row_after_calls bytes k n)) refl (goes_on n) t

    -- Calls after calls.
    calls_after : (m n : ℕ) → row_after_calls bytes k (m + n) ≡ row_after_calls bytes (row_after_calls bytes k m) n
    unfolding row_after_calls
    calls_after m zero = let e : m + 0 ≡ m = omega arith in rw e
    calls_after m (suc n) = let e : m + suc n ≡ suc (m + n) = omega arith in rw (e, calls_after m n)

    -- A walker that has said "no more" says it for ever, and stays where it is.
    pub ended_stays : (m : ℕ) → (handed_out bytes k m).more ≡ 0 → (n : ℕ) → NoMore (handed_out bytes k (m + n)) × (row_after_calls bytes k (m + n) ≡ row_after_calls bytes k m)
    ended_stays m e n =
        let at = row_after_calls bytes k m in
        let u : ¬ RowThere bytes at = λ t. omega (arith, e, ((step_of bytes at).row t).0.0) in
        let c = calls_after m n ∙ stays at u n in
        (rw c ((step_of bytes at).none u).0, c)

    -- However it was made, it has ended when it was called as often as there are bytes.
    pub any_ends : (n : ℕ) → length bytes ≤ n → NoMore (handed_out bytes k n)
    any_ends n p = ((step_of bytes (row_after_calls bytes k n)).none (λ t. omega (arith, t.1, goes_on n t))).0

module _ (wing : ℕ) (bytes : List ℕ) where
  -- A sheet has the rows that its header counts, and no other; a walk begins at the first.
  module _ (z : loaded_refusal wing bytes ≡ 0) where
    present : (n : ℕ) → n < count_told bytes → RowThere bytes n
    present n p = (p, omega (arith, (accepted wing bytes z).1.1.0.size))

    begins : begun_at wing bytes ≡ record { refusal = 0; row = 0 }
    unfolding begun_at
    begins = where_accepted wing bytes (λ n. record { refusal = n; row = ended_row }) _ z

    at_row : (n : ℕ) → n ≤ count_told bytes → row_after_calls bytes 0 n ≡ n
    unfolding row_after_calls
    at_row zero p = refl
    at_row (suc n) p = rw (at_row n (omega arith)) (omega (arith, ((step_of bytes n).row (present n (omega arith))).1))

    pub rows_handed_out : (n : ℕ) → n < count_told bytes → handed_out bytes (begun_at wing bytes).row n ≡ row_read bytes (row_place bytes n)
    unfolding row_given
    rows_handed_out n p = rw (begins, at_row n (omega arith), has bytes n (present n p))

    none_left : (n : ℕ) → count_told bytes ≤ n → NoMore (handed_out bytes (begun_at wing bytes).row n)
    none_left n p =
        let rows = count_told bytes in
        let u : ¬ RowThere bytes rows = λ t. omega (arith, t.0) in
        let e : n ≡ rows + (n - rows) = omega arith in
        rw (begins, e, calls_after bytes 0 rows (n - rows), at_row rows (omega arith), stays bytes rows u (n - rows)) ((step_of bytes rows).none u).0

  refused_begins : (¬ (loaded_refusal wing bytes ≡ 0)) → begun_at wing bytes ≡ record { refusal = loaded_refusal wing bytes; row = ended_row }
  unfolding begun_at
  refused_begins = where_refused wing bytes (λ n. record { refusal = n; row = ended_row }) _

  pub walk_of : WalkOf wing bytes
  walk_of =
      record {
        refusal = by_cases (ℕ_discrete (loaded_refusal wing bytes) 0) (λ z. rw (begins z, z)) (λ u. rw (refused_begins u));
        rows = λ z n p. rw (rows_handed_out z n p) (refl, (refl, (refl, refl)));
        no_more = none_left;
        ended = λ u l n. let w : ¬ RowThere bytes ended_row = λ t. omega (arith, t.1) in rw (refused_begins u, stays bytes ended_row w n) ((step_of bytes ended_row).none w).0;
      }
