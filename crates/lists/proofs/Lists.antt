-- What every list of a year promises, and what it makes of the lent numbers.
use mathlib.Core.Path.{◌≡◌, refl, ap}
use mathlib.Core.Bool.{true, cond, or-true, false≢true}
use mathlib.Core.List.{List, [], ◌∷◌}
use mathlib.Core.Logic.{by_cases}
use Prim.Native.Nat.{ℕ, zero, suc, ◌≤◌, ◌<◌}
use native.Mathlib.Omega.{arith}
use native.Mathlib.Decide.{ℕ_discrete}
use borrow.Author.Tests.{eq-eqb, ne_eqb, ltb-true, ltb-false}
use lib.Dec.{eqb, ltb}
use lib.ListN.{length, get_or}
use Rattle.laws.specs.Promise.{◌else◌, Promised}
use Rattle.laws.specs.Buffer.{Lent}
use Rattle.laws.specs.Runs.{elem}
use Rattle.laws.proofs.One.{one_result}
use Rattle.laws.proofs.Stores.{lent_done, lent_unless}
use Rattle.laws.proofs.Promises.{Catches, ranged, asks, answered}
use Rattle.molad.specs.Years.{last_year, InYears, out_of_years}
use Rattle.lists.specs.Lists.{no_list, list_answer, list_buffer, days_of}
use Rattle.lists.specs.declared.ListAnswer.{ListAnswer}

-- A buffer that is too short is caught.
room : (buffer list : List ℕ) → Catches (ltb (length buffer) (length list)) (length list ≤ length buffer)
room buffer list = record { passes = ltb-false _ _; catches = λ e m. omega (arith, ltb-true (length buffer) (length list) e) }

-- The answer: 1 and 10 are asked in turn, and 10 tells how many entries are wanted.
pub list_promised :
    (h : ℕ) (buffer list : List ℕ) (count : ℕ) →
    Promised (λ (r : ListAnswer). r.refusal) (InYears h else 1 ∷ (length list ≤ length buffer) else 10 ∷ [])
    (λ r. r.count ≡ count) (λ n r. r.count ≡ cond (eqb n 10) (length list) 0) (list_answer h buffer list count)
unfolding list_answer
list_promised h buffer list count =
    asks (no_list 1) (ranged 1 last_year h) (omega arith) refl refl (λ _.
    asks (record { refusal = 10; count = length list }) (room buffer list) (omega arith) refl refl (λ _. answered refl refl))

-- The buffer.
pub list_lent : (h : ℕ) (buffer list : List ℕ) (count : ℕ) → Lent (list_answer h buffer list count).refusal list buffer (list_buffer h buffer list)
unfolding list_answer list_buffer
list_lent h buffer list count =
    let unless = lent_unless (λ (r : ListAnswer). r.refusal) in
    unless (out_of_years h) (no_list 1) _ list buffer _ (omega arith)
    (unless (ltb (length buffer) (length list)) (record { refusal = 10; count = length list }) (record { refusal = 0; count = count }) list buffer _ (omega arith)
    (lent_done 0 list buffer refl))

-- The days of a table, one by one, and how many they are.
pub days_at_lem : (day : ℕ → ℕ) (table : List ℕ) (i : ℕ) → i < length table → get_or (days_of day table) i 0 ≡ day (get_or table i 0)
unfolding days_of
days_at_lem day [] i p = absurd (omega arith)
days_at_lem day (r ∷ table) zero p = refl
days_at_lem day (r ∷ table) (suc i) p = days_at_lem day table i (omega arith)

pub days_length : (day : ℕ → ℕ) (table : List ℕ) → length (days_of day table) ≡ length table
unfolding days_of
days_length day [] = refl
days_length day (r ∷ table) = rw (days_length day table)

pub days_hold : (day : ℕ → ℕ) (table : List ℕ) (r : ℕ) → elem r table ≡ true → elem (day r) (days_of day table) ≡ true
unfolding days_of
days_hold day [] r e = absurd (false≢true e)
days_hold day (s ∷ table) r e =
    by_cases (ℕ_discrete r s)
    (λ q. rw (eq-eqb (day r) (day s) (ap day q)))
    (λ q. rw (days_hold day table r (rw (ne_eqb r s q) at e), or-true))

pub no_list_one : (n : ℕ) (r s : ListAnswer) → r ≡ no_list n → s ≡ no_list n → r ≡ s
no_list_one n = one_result (no_list n)
