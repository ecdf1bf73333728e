-- What `stretches` promises, for any table that passes the check and so for either wing's; and that its contract leaves one
-- answer and one state of the lent buffer.
use mathlib.Core.Path.{◌≡◌, refl, sym}
use mathlib.Core.Bool.{true}
use mathlib.Core.List.{List}
use Prim.Native.Nat.{ℕ, ◌*◌, ◌/◌}
use native.Mathlib.Omega.{arith}
use lib.ListN.{length, take}
use Rattle.laws.specs.Promise.{SmallestAfter}
use Rattle.laws.specs.Buffer.{Lent, overwrite}
use Rattle.laws.proofs.One.{one_result}
use Rattle.laws.proofs.Stores.{list_written}
use Rattle.laws.proofs.Promises.{smallest_after}
use Rattle.lists.specs.Lists.{no_list}
use Rattle.lists.proofs.Lists.{list_promised, list_lent}
use Rattle.lists.specs.declared.ListAnswer.{ListAnswer}
use Rattle.rest.specs.Wings.{table_of}
use Rattle.rest.specs.Check.{passes}
use Rattle.rest.proofs.Passed.{tables_pass}
use Rattle.rest.proofs.Wings.{wing_promised, wing_lent}
use Rattle.stretches.specs.Stretches.{stretch_rows}
use Rattle.stretches.specs.Promises.{StretchesOf, asked_of_year, StretchesTold, PromisedStretches}
use Rattle.stretches.specs.Answers.{stretches_answer, stretches_buffer, wing_stretches, wing_stretches_buffer}
use Rattle.stretches.proofs.WholeList.{stretches_of, two_each}

module _ (table : List ℕ) (ok : passes table ≡ true) where
  pub stretches_told_lem : (h : ℕ) (buffer : List ℕ) → StretchesTold (asked_of_year table h buffer) table h (stretches_answer table h buffer)
  stretches_told_lem h buffer =
      let p = list_promised h buffer (stretch_rows table h) (length (stretch_rows table h) / 2) in
      record { done = p.done; values = λ m. rw (p.values m) (two_each table ok h); refused = p.refused; besides = p.besides }

-- So for the wing that is named, which is asked first.
module _ (wing : ℕ) where
  pub stretches_promised : (h : ℕ) (buffer : List ℕ) → PromisedStretches wing h buffer (wing_stretches wing h buffer)
  stretches_promised h buffer =
      wing_promised wing (no_list 15) (λ table. stretches_answer table h buffer) refl refl (stretches_told_lem (table_of wing) (tables_pass wing) h buffer)

  pub stretches_lent :
      (h : ℕ) (buffer : List ℕ) → Lent (wing_stretches wing h buffer).refusal (stretch_rows (table_of wing) h) buffer (wing_stretches_buffer wing h buffer)
  stretches_lent h buffer =
      let rows = stretch_rows (table_of wing) h in
      wing_lent wing rows buffer (λ table. stretches_answer table h buffer) (λ table. stretches_buffer table h buffer)
      (list_lent h buffer rows (length rows / 2))

  -- What stands in the buffer when the call is done, two entries for each stretch.
  pub stretches_given :
      (h : ℕ) (buffer : List ℕ) → (wing_stretches wing h buffer).refusal ≡ 0 →
      StretchesOf (table_of wing) h (take (2 * (wing_stretches wing h buffer).count) (wing_stretches_buffer wing h buffer))
  stretches_given h buffer z =
      let t = stretches_promised h buffer in
      let met = t.done.0 z in
      rw (list_written (stretch_rows (table_of wing) h) buffer _ _ _ (stretches_lent h buffer) z (sym (t.values met)))
      (stretches_of (table_of wing) (tables_pass wing) h met.1.0.0 met.1.0.1)

  -- Where the wing is 1 or 2 the smallest refusal is given.
  pub stretches_smallest : (h : ℕ) (buffer : List ℕ) → SmallestAfter (stretches_promised h buffer)
  stretches_smallest h buffer = smallest_after (stretches_promised h buffer) (omega arith, (omega arith, tt))

  -- One answer, and one state of the buffer.
  pub stretches_one : (h : ℕ) (buffer : List ℕ) (r s : ListAnswer) → r ≡ wing_stretches wing h buffer → s ≡ wing_stretches wing h buffer → r ≡ s
  stretches_one h buffer = one_result (wing_stretches wing h buffer)

  pub stretches_buffer_one : (h : ℕ) (buffer r s : List ℕ) → r ≡ wing_stretches_buffer wing h buffer → s ≡ wing_stretches_buffer wing h buffer → r ≡ s
  stretches_buffer_one h buffer = one_result (wing_stretches_buffer wing h buffer)

  -- And of the step that works out a year's stretches, for the sheet too.
  pub year_rows_one : (h r s : ℕ) → r ≡ length (stretch_rows (table_of wing) h) → s ≡ length (stretch_rows (table_of wing) h) → r ≡ s
  year_rows_one h = one_result (length (stretch_rows (table_of wing) h))

  pub year_rows_buffer_one :
      (h : ℕ) (buffer r s : List ℕ) → r ≡ overwrite buffer (stretch_rows (table_of wing) h) → s ≡ overwrite buffer (stretch_rows (table_of wing) h) → r ≡ s
  year_rows_buffer_one h buffer = one_result (overwrite buffer (stretch_rows (table_of wing) h))
