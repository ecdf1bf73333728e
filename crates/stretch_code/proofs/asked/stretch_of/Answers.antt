-- The answer worked out in the year that holds the day.
use Rattle.std.proofs.Common.{rules, arith, ◌≡◌, ◌+◌, ◌-◌, w64, to_z, of_z}
use borrow.Author.Tests.{lt-ltb, le-ltb}
use Rattle.days.specs.Range.{last_day}
use Rattle.rest.specs.Wings.{table_of}
use Rattle.rest.proofs.Passed.{tables_pass}
use Rattle.rest_table.specs.Wing.{number_of}
use Rattle.stretch_code.proofs.Answered.{measured, inside, answered, short}
use Rattle.stretch_code.proofs.asked.stretch_of.Goals as goal

pub invariant_of-year-clause-measured : goal.invariant_of-year-clause-measured
invariant_of-year-clause-measured c = measured 1 c.args.day c.args.new_year c.args.length c.requires.0 c.requires.1.0 c.requires.1.1

pub weekday_of-requires : goal.weekday_of-requires
weekday_of-requires c =
    let i = inside 1 c.args.day c.args.new_year c.args.length c.requires.0 c.requires.1.0 c.requires.1.1 in
    let r = c.requires.0 in omega arith

pub overflow_sub-day : goal.overflow_sub-day
overflow_sub-day c = (inside 1 c.args.day c.args.new_year c.args.length c.requires.0 c.requires.1.0 c.requires.1.1).0

pub run_for-run-requires : goal.run_for-run-requires
run_for-run-requires c =
    let i = inside 1 c.args.day c.args.new_year c.args.length c.requires.0 c.requires.1.0 c.requires.1.1 in (omega arith, omega arith)

pub overflow_add-first : goal.overflow_add-first
overflow_add-first c =
    let i = inside 1 c.args.day c.args.new_year c.args.length c.requires.0 c.requires.1.0 c.requires.1.1 in
    let o = c.run_for-run.ensures.order in
    let r = c.requires.0 in search rules

pub returns-then-first-gt-LAST_DAY : goal.returns-then-first-gt-LAST_DAY
returns-then-first-gt-LAST_DAY c =
    let a = c.args in
    let r = c.run_for-run.ensures in
    let e = answered (number_of a.wing) a.day a.new_year a.length c.requires.0 c.requires.1.0 c.requires.1.1 _ _ _ c.weekday_of.ensures r.first r.past in
    rw (e, lt-ltb last_day _ c.if-first-gt-LAST_DAY.true)

pub invariant_of-result-clause-short : goal.invariant_of-result-clause-short
invariant_of-result-clause-short c =
    let a = c.args in
    let r = c.run_for-run.ensures in
    let e = answered (number_of a.wing) a.day a.new_year a.length c.requires.0 c.requires.1.0 c.requires.1.1 _ _ _ c.weekday_of.ensures r.first r.past in
    let l = short (table_of (number_of a.wing)) a.day (tables_pass (number_of a.wing)) in
    let m = rw (e, le-ltb last_day _ c.if-first-gt-LAST_DAY.false) at l in omega arith

pub returns : goal.returns
returns c =
    let a = c.args in
    let r = c.run_for-run.ensures in
    let e = answered (number_of a.wing) a.day a.new_year a.length c.requires.0 c.requires.1.0 c.requires.1.1 _ _ _ c.weekday_of.ensures r.first r.past in
    let t : to_z w64 (of_z w64 c.days_left.result) ≡ c.days_left.result = search rules in
    let n : a.new_year + c.run_for-run.result.past - (a.new_year + c.run_for-run.result.first) ≡ c.run_for-run.result.past - c.run_for-run.result.first = omega arith in
    rw (e, le-ltb last_day _ c.if-first-gt-LAST_DAY.false, t, c.days_left.ensures, n)
