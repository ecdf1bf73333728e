use Rattle.std.proofs.Common.{arith, ℕ, List}
use mathlib.Core.Bool.{true}
use mathlib.Core.Path.{◌≡◌, refl}
use Rattle.laws.specs.Runs.{each_of}
use Rattle.hebrew.specs.Rows.{row_good}
use Rattle.lists.specs.Lists.{list_answer, list_buffer}
use Rattle.lists.specs.declared.ListAnswer.{ListAnswer}
use Rattle.newyear_code.specs.declared.span.Span.{Span}
use Rattle.rest.specs.Wings.{table_of}
use Rattle.rest.specs.Steps.{list_refusal}
use Rattle.rest.specs.Answers.{rest_days_answer, rest_days_buffer, wing_rest_days, wing_rest_days_buffer}
use Rattle.rest.proofs.Passed.{tables_pass}
use Rattle.rest.proofs.Refused.{list_refused, list_passed}
use Rattle.rest.proofs.RestOfYear.{rows_good}
use Rattle.rest_code.proofs.rest_days.Goals as goal

-- The rows of either wing's table are dates of the year, since both pass the check.
good : (wing : ℕ) (span : Span) → each_of (table_of wing) (row_good span.length) ≡ true
good wing span = let e = span.is_span in rw e.days (rows_good (table_of wing) (tables_pass wing) span.year e.first e.last)

pub table_days-requires : goal.table_days-requires
unfolding table_of
table_days-requires c = good 1 c.in-Ok-Hall-default.span

pub table_days-requires-in-Ok-Guest-default : goal.table_days-requires-in-Ok-Guest-default
unfolding table_of
table_days-requires-in-Ok-Guest-default c = good 2 c.in-Ok-Guest-default.span

-- The answer by the table of a good wing is the wing's.
by_table :
    (wing h n : ℕ) (span : Span) (before after : List ℕ) (r : ListAnswer) → (list_refusal wing h ≡ 0) × ((n ≡ wing) × (span.year ≡ h)) →
    (r ≡ rest_days_answer (table_of n) span.year before) × (after ≡ rest_days_buffer (table_of n) span.year before) →
    (r ≡ wing_rest_days wing h before) × (after ≡ wing_rest_days_buffer wing h before)
by_table wing h n span before after r told e =
    let p = list_passed wing h _ refl told.0 in
    let w = rw (told.1.0, told.1.1) at e in (rw p.0 w.0, rw p.0 w.1)

pub returns-in-Ok-Hall-default : goal.returns-in-Ok-Hall-default
unfolding table_of
returns-in-Ok-Hall-default c = by_table _ _ 1 c.in-Ok-Hall-default.span _ _ _ (rw c.in-Ok-Hall-default.field-0-0-is at c.in-Ok-Hall-default.ensures) c.table_days.ensures

pub returns-in-Ok-Guest-default : goal.returns-in-Ok-Guest-default
unfolding table_of
returns-in-Ok-Guest-default c =
    by_table _ _ 2 c.in-Ok-Guest-default.span _ _ _ (rw c.in-Ok-Guest-default.field-0-0-is at c.in-Ok-Guest-default.ensures) c.table_days-in-Ok-Guest-default.ensures

pub returns-in-Err : goal.returns-in-Err
unfolding list_answer list_buffer
returns-in-Err c = list_refused _ _ _ _ _ _ _ c.in-Err.ensures.1 (omega (arith, c.in-Err.ensures.0)) cc
