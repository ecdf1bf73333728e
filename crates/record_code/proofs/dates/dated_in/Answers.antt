use Rattle.std.proofs.Common.{rules, arith, ◌-◌}
use Rattle.newyear_code.proofs.Spanned.{span_ends, span_holds}
use Rattle.hebrew.specs.Dates.{date_of}
use Rattle.hebrew.specs.Steps.{year_date}
use Rattle.hebrew.proofs.Walked.{date_small}
use Rattle.record.specs.Record.{dated_of}
use Rattle.record_code.proofs.dates.dated_in.Goals as goal

pub overflow_sub-day : goal.overflow_sub-day
overflow_sub-day c = (span_holds c.args.day c.args.span (omega arith) c.requires.1).0

pub date_after-date-requires : goal.date_after-date-requires
date_after-date-requires c =
    let i = span_holds c.args.day c.args.span (omega arith) c.requires.1 in (c.args.span.is_span.measured, omega arith)

pub overflow_sub-result-2 : goal.overflow_sub-result-2
overflow_sub-result-2 c = let i = span_holds c.args.day c.args.span (omega arith) c.requires.1 in search rules

pub invariant_of-result : goal.invariant_of-result
invariant_of-result c =
    let s = c.args.span in
    let i = span_holds c.args.day s (omega arith) c.requires.1 in
    record { small = rw c.date_after-date.ensures (date_small s.length (c.args.day - s.new_year) s.is_span.measured (omega arith)).1 }

pub returns : goal.returns
unfolding dated_of date_of year_date
returns c =
    let s = c.args.span in
    let e = s.is_span in
    rw (span_ends s, c.date_after-date.ensures, e.begins, e.days, c.requires.1)
