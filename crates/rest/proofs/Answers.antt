-- What `rest_days` promises: each day of its list is a rest day of the year, in the table's order; a day of the year is in
-- the list exactly if its date is in the table; so a rest day is a Saturday or a day of the list.
use mathlib.Core.Path.{◌≡◌, refl}
use mathlib.Core.Bool.{Bool, cond}
use mathlib.Core.List.{List, [], ◌∷◌}
use Prim.Native.Nat.{ℕ, ◌≤◌}
use native.Mathlib.Omega.{arith}
use lib.Dec.{eqb}
use lib.ListN.{length, take}
use Rattle.laws.specs.Promise.{◌else◌, Promised, SmallestAfter}
use Rattle.laws.specs.Buffer.{Lent}
use Rattle.laws.specs.Runs.{elem}
use Rattle.laws.proofs.One.{one_result}
use Rattle.laws.proofs.Stores.{list_written}
use Rattle.laws.proofs.Promises.{smallest_after}
use Rattle.molad.specs.Years.{InYears}
use Rattle.hebrew.specs.Dates.{day_number}
use Rattle.lists.specs.Lists.{no_list, days_of}
use Rattle.lists.specs.declared.ListAnswer.{ListAnswer}
use Rattle.lists.proofs.Lists.{list_promised, list_lent}
use Rattle.rest.specs.Table.{rest_days}
use Rattle.rest.specs.Wings.{IsWing, out_of_wings, table_of}
use Rattle.rest.specs.Steps.{rest_on, list_refusal}
use Rattle.rest.specs.Promises.{RestDaysOf, rest_count, KeptBy}
use Rattle.rest.specs.Answers.{rest_days_answer, rest_days_buffer, wing_rest_days, wing_rest_days_buffer}
use Rattle.hebrew.specs.declared.YearDate.{YearDate}
use Rattle.rest.proofs.Passed.{tables_pass}
use Rattle.rest.proofs.Days.{rest_days_of}
use Rattle.rest.proofs.Wings.{wing_promised, wing_lent, rest_count_lem}

-- The rest days of the year, eight or thirteen.
pub rest_days_promised :
    (wing h : ℕ) (buffer : List ℕ) →
    Promised (λ (r : ListAnswer). r.refusal)
    (IsWing wing else 15 ∷ InYears h else 1 ∷ (rest_count wing ≤ length buffer) else 10 ∷ [])
    (λ r. r.count ≡ rest_count wing) (λ n r. r.count ≡ cond (eqb n 10) (rest_count wing) 0) (wing_rest_days wing h buffer)
rest_days_promised wing h buffer =
    rw (← rest_count_lem wing h)
    (wing_promised wing (no_list 15) (λ table. rest_days_answer table h buffer) refl refl
    (list_promised h buffer (rest_days (table_of wing) h) (length (rest_days (table_of wing) h))))

-- Where the wing is 1 or 2 the smallest refusal is given.
pub rest_days_smallest : (wing h : ℕ) (buffer : List ℕ) → SmallestAfter (rest_days_promised wing h buffer)
rest_days_smallest wing h buffer = smallest_after (rest_days_promised wing h buffer) (omega arith, (omega arith, tt))

pub rest_days_lent :
    (wing h : ℕ) (buffer : List ℕ) →
    Lent (wing_rest_days wing h buffer).refusal (rest_days (table_of wing) h) buffer (wing_rest_days_buffer wing h buffer)
rest_days_lent wing h buffer =
    wing_lent wing (rest_days (table_of wing) h) buffer (λ table. rest_days_answer table h buffer) (λ table. rest_days_buffer table h buffer)
    (list_lent h buffer (rest_days (table_of wing) h) (length (rest_days (table_of wing) h)))

-- What stands in the buffer when the call is done: the rest days of the year and, by their dates, those of the wing.
pub rest_days_given :
    (wing h : ℕ) (buffer : List ℕ) → (wing_rest_days wing h buffer).refusal ≡ 0 →
    let given = take (rest_count wing) (wing_rest_days_buffer wing h buffer) in
    RestDaysOf (table_of wing) h given × KeptBy wing (λ month day. day_number (record { year = h; month = month; day = day })) given
unfolding table_of days_of
rest_days_given wing h buffer z =
    let met = (rest_days_promised wing h buffer).done.0 z in
    let e = list_written (rest_days (table_of wing) h) buffer _ _ (rest_count wing) (rest_days_lent wing h buffer) z (rest_count_lem wing h) in (
      rw e (rest_days_of h met.1.0.0 met.1.0.1 (table_of wing) (tables_pass wing)),
      record { one = λ w. rw (e, w); guest = λ w. rw (e, w) },
    )

-- One answer, and one state of the buffer.
pub rest_days_one : (wing h : ℕ) (buffer : List ℕ) (r s : ListAnswer) → r ≡ wing_rest_days wing h buffer → s ≡ wing_rest_days wing h buffer → r ≡ s
rest_days_one wing h buffer = one_result (wing_rest_days wing h buffer)

pub rest_days_buffer_one : (wing h : ℕ) (buffer r s : List ℕ) → r ≡ wing_rest_days_buffer wing h buffer → s ≡ wing_rest_days_buffer wing h buffer → r ≡ s
rest_days_buffer_one wing h buffer = one_result (wing_rest_days_buffer wing h buffer)

pub rest_on_one : (table : List ℕ) (w : ℕ) (date : YearDate) (r s : Bool) → r ≡ rest_on table w date → s ≡ rest_on table w date → r ≡ s
rest_on_one table w date = one_result (rest_on table w date)

pub kept_one : (wing row : ℕ) (r s : Bool) → r ≡ elem row (table_of wing) → s ≡ elem row (table_of wing) → r ≡ s
kept_one wing row = one_result (elem row (table_of wing))

pub out_of_wings_one : (wing : ℕ) (r s : Bool) → r ≡ out_of_wings wing → s ≡ out_of_wings wing → r ≡ s
out_of_wings_one wing = one_result (out_of_wings wing)

pub list_refusal_one : (wing h r s : ℕ) → r ≡ list_refusal wing h → s ≡ list_refusal wing h → r ≡ s
list_refusal_one wing h = one_result (list_refusal wing h)
