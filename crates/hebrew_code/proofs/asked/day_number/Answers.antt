use borrow.Author.Rules.{rules}
use mathlib.Core.Path.{sym}
use Prim.Native.Nat.{◌≤◌}
use native.Mathlib.Omega.{arith}
use Rattle.std.proofs.lemmas.Result.{err_from_is_err_and}
use Rattle.laws.proofs.Tests.{within}
use Rattle.hebrew.specs.Dates.{day_number}
use Rattle.hebrew.specs.Answers.{no_day, hebrew_day}
use Rattle.hebrew.proofs.Placed.{code_range, before_from_lem}
use Rattle.molad_code.proofs.Refused.{month_refused}
use Rattle.hebrew_code.proofs.asked.day_number.Goals as goal

pub returns-in_err-span : goal.returns-in_err-span
unfolding hebrew_day
returns-in_err-span c =
    let p = err_from_is_err_and c.from_residual.result c.from_residual.ensures.1 in
    let e = c.in_err-span.ensures in
    rw (p.1, p.2) (sym (month_refused no_day _ _ _ c.in_err-span.field-0.0 e.0 e.1))

pub returns-then-day-days_in : goal.returns-then-day-days_in
unfolding hebrew_day
returns-then-day-days_in c =
    let s = c.in_ok-span in
    rw (s.ensures.0, s.ensures.1.0, ← s.ensures.1.1, ← s.span.is_span.days, ← c.days_in.ensures, c.if-day-days_in.true)

pub days_before-requires : goal.days_before-requires
days_before-requires c = (c.in_ok-span.span.is_span.measured, code_range _ _ c.in_ok-span.ensures.1.0)

pub overflow_add-result-2 : goal.overflow_add-result-2
overflow_add-result-2 c =
    let s = c.in_ok-span in
    let e = s.span.is_span in
    let w = within 1 c.days_in.result c.args.day c.if-day-days_in.false in
    let r = code_range _ _ s.ensures.1.0 in
    let k = before_from_lem s.span.length c.args.month e.measured r.0 r.1 in
    let d : c.args.day ≤ 385 = omega (arith, c.days_in.ensures) in
    search rules

pub returns : goal.returns
unfolding hebrew_day day_number
returns c =
    let s = c.in_ok-span in
    let e = s.span.is_span in
    rw (s.ensures.0, s.ensures.1.0, ← s.ensures.1.1, ← e.days, ← c.days_in.ensures, c.if-day-days_in.false, c.days_before.ensures.0, e.begins)
