-- What is shown of an answer by a table holds of the wing that keeps it; the wing is asked first.
use mathlib.Core.Path.{◌≡◌, refl}
use mathlib.Core.Bool.{Bool, true, false, cond, false≢true}
use mathlib.Core.List.{List, ◌∷◌}
use mathlib.Core.Logic.{inl, inr, ⊎_elim, by_cases}
use Prim.Native.Nat.{ℕ}
use native.Mathlib.Omega.{arith}
use native.Mathlib.Decide.{ℕ_discrete}
use lib.Dec.{eqb}
use lib.ListN.{length}
use Rattle.laws.specs.Promise.{Asked, ◌else◌, Promised}
use Rattle.laws.specs.Buffer.{Lent}
use Rattle.laws.proofs.Tests.{within}
use Rattle.laws.proofs.Stores.{lent_unless}
use Rattle.laws.proofs.Promises.{Catches, asks}
use Rattle.lists.specs.Lists.{no_list, days_of}
use Rattle.lists.specs.declared.ListAnswer.{ListAnswer}
use Rattle.rest.specs.Table.{rest_table, guest_table, rest_days}
use Rattle.rest.specs.Wings.{IsWing, out_of_wings, table_of, of_wing}
use Rattle.rest.specs.Promises.{rest_count}

-- A wing that is neither 1 nor 2 is caught.
pub wings : (wing : ℕ) → Catches (out_of_wings wing) (IsWing wing)
wings wing =
    record {
      passes = λ e. let w = within 1 2 wing e in by_cases (ℕ_discrete wing 1) (λ q. inl q) (λ q. inr (omega arith));
      catches = λ e. ⊎_elim (λ q. false≢true (rw q at e)) (λ q. false≢true (rw q at e));
    }

pub wing_promised :
    {A : Type 0} {number : A → ℕ} {asked : List Asked} {Values : A → Type 0} {Besides : ℕ → A → Type 0}
    (wing : ℕ) (refused : A) (answer : List ℕ → A) → number refused ≡ 15 → Besides 15 refused →
    Promised number asked Values Besides (answer (table_of wing)) →
    Promised number (IsWing wing else 15 ∷ asked) Values Besides (of_wing wing refused answer)
wing_promised wing refused answer e z p = asks refused (wings wing) (omega arith) e z (λ _. p)

-- A lent buffer stays as it was where the wing is refused.
pub wing_lent :
    (wing : ℕ) (list buffer : List ℕ) (answer : List ℕ → ListAnswer) (after : List ℕ → List ℕ) →
    Lent (answer (table_of wing)).refusal list buffer (after (table_of wing)) →
    Lent (of_wing wing (no_list 15) answer).refusal list buffer (of_wing wing buffer after)
wing_lent wing list buffer answer after lent =
    lent_unless (λ (r : ListAnswer). r.refusal) (out_of_wings wing) (no_list 15) (answer (table_of wing)) list buffer (after (table_of wing)) (omega arith) lent

-- How many rest days the wing has.
pub rest_count_lem : (wing h : ℕ) → length (rest_days (table_of wing) h) ≡ rest_count wing
unfolding table_of days_of
rest_count_lem wing h = go (eqb wing 1)
  where
    go : (first : Bool) → length (rest_days (cond first rest_table guest_table) h) ≡ cond first 8 13
    go true = refl
    go false = refl
