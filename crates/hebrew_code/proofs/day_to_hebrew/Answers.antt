use borrow.Author.Rules.{rules}
use mathlib.Core.Path.{◌≡◌}
use mathlib.Core.Bool.{false}
use Prim.Native.Nat.{ℕ, ◌+◌, ◌≤◌, ◌<◌}
use native.Mathlib.Omega.{arith}
use Rattle.days.specs.Range.{first_day, last_day, out_of_range}
use Rattle.laws.proofs.Tests.{within}
use Rattle.newyear.specs.NewYear.{year_of}
use Rattle.newyear_code.specs.declared.span.Span.{Span}
use Rattle.newyear_code.proofs.Spanned.{span_holds}
use Rattle.hebrew.specs.Dates.{date_of}
use Rattle.hebrew.specs.Steps.{year_date}
use Rattle.hebrew.specs.Answers.{hebrew_date}
use Rattle.hebrew_code.proofs.day_to_hebrew.Goals as goal

inside : (j : ℕ) (s : Span) → out_of_range j ≡ false → s.year ≡ year_of j → (s.new_year ≤ j) × (j < s.new_year + s.length)
inside j s r y = span_holds j s (within first_day last_day j r) y

pub overflow_sub-day : goal.overflow_sub-day
overflow_sub-day c = let s = c.in-Ok in (inside c.args.day s.span s.ensures.0 s.ensures.1).0

pub date_after-date-requires : goal.date_after-date-requires
date_after-date-requires c =
    let s = c.in-Ok in
    let i = inside c.args.day s.span s.ensures.0 s.ensures.1 in
    (s.span.is_span.measured, omega arith)

pub overflow_add-result : goal.overflow_add-result
unfolding year_date
overflow_add-result c = rw c.date_after-date.ensures (search rules)

pub returns-in-Ok : goal.returns-in-Ok
unfolding hebrew_date date_of year_date
returns-in-Ok c =
    let s = c.in-Ok in
    let e = s.span.is_span in
    rw (s.ensures.0, c.date_after-date.ensures, e.begins, e.days, s.ensures.1)

pub returns-in-Err : goal.returns-in-Err
unfolding hebrew_date
returns-in-Err c = rw (c.in-Err.ensures.0, c.number.ensures, c.in-Err.ensures.1) cc
