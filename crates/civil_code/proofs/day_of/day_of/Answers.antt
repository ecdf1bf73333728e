use Rattle.std.proofs.Common.{◌≡◌, ◌+◌, ◌-◌, not, cond, arith}
use Rattle.std.proofs.lemmas.Result.{err_from_is_err_and}
use mir.Facts.{to_z-of_z}
use Rattle.days.specs.Range.{out_of_range}
use Rattle.civil.specs.Answers.{no_day, civil_day}
use Rattle.civil.proofs.MonthStarts.{next_month}
use Rattle.civil_code.proofs.Steps.{contains_tells, no_year, no_month, in_year}
use Rattle.civil_code.proofs.day_of.day_of.Goals as goal
use Rattle.civil_code.proofs.day_of.day_of.Goals.{After-contains-2}

pub returns-in_err-number : goal.returns-in_err-number
returns-in_err-number g c =
    let a = c.args in
    let year = rw (to_z-of_z c.ranges.year) at c.in_err-number.ensures in
    let why = err_from_is_err_and c.from_residual.result c.from_residual.ensures.1 in
    rw (no_year g.C.Calendar.rule a.year a.month a.day year.0, why.1, why.2, year.1)

pub returns-then-not-contains : goal.returns-then-not-contains
returns-then-not-contains g c =
    let a = c.args in
    let year = rw (to_z-of_z c.ranges.year) at c.in_ok-number.ensures in
    let r = c.new.ensures in
    let month = contains_tells 1 12 a.month c.new.result c.contains.result r.start r.end r.exhausted c.contains.ensures.value in
    rw (no_month g.C.Calendar.rule a.year a.month a.day year.0 (rw c.if-not-contains.true at month))

pub overflow_sub-length : goal.overflow_sub-length
overflow_sub-length g c = omega (arith, next_month c.year-year.result.leap c.args.month)

-- The answer once the month's days are known.
of_month : (g : _) (c : After-contains-2 g) →
    let j = c.year-year.result.eve + c.days_before-before.result + c.args.day in
    civil_day g.C.Calendar.rule c.args.year c.args.month c.args.day
    ≡ cond (not c.contains-2.result) (no_day 7) (cond (out_of_range j) (no_day 8) (record { refusal = 0; day = j }))
of_month g c =
    let a = c.args in
    let x = c.year-year in
    let before = c.days_before-before in
    let next = c.days_before in
    let year = rw (to_z-of_z c.ranges.year) at c.in_ok-number.ensures in
    let r = c.new.ensures in
    let month = contains_tells 1 12 a.month c.new.result c.contains.result r.start r.end r.exhausted c.contains.ensures.value in
    let s = c.new-2.ensures in
    let day = contains_tells 1 (next.result - before.result) a.day c.new-2.result c.contains-2.result s.start s.end s.exhausted c.contains-2.ensures.value in
    rw (← day)
    (in_year g.C.Calendar.rule g.met.C.Calendar.covers a.year a.month a.day c.in_ok-number.number x.result before.result next.result
    year (rw c.if-not-contains.false at month) x.ensures before.ensures.0 next.ensures.0)

pub returns-then-not-contains-2 : goal.returns-then-not-contains-2
returns-then-not-contains-2 g c =
    rw (of_month g (goal.at.returns-then-not-contains-2 g c).After-contains-2, c.if-not-contains-2.true)

pub returns-then-out_of_range : goal.returns-then-out_of_range
returns-then-out_of_range g c =
    rw (of_month g (goal.at.returns-then-out_of_range g c).After-contains-2, c.if-not-contains-2.false, ← c.out_of_range.ensures, c.if-out_of_range.true)

pub returns : goal.returns
returns g c =
    rw (of_month g (goal.at.returns g c).After-contains-2, c.if-not-contains-2.false, ← c.out_of_range.ensures, c.if-out_of_range.false)
