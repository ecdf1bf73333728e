-- The next rest day is asked for first; from it the run's start and end, or the next New Year's.
use Rattle.std.proofs.Common.{arith, ◌≡◌, ◌-◌, ◌∙◌}
use borrow.Author.Tests.{lt-ltb, le-ltb}
use Rattle.hebrew.proofs.Walked.{date_small, tomorrow_is}
use Rattle.stretch.specs.Steps.{next_at, first_for, past_for}
use Rattle.stretch.proofs.Walk.{at_date}
use Rattle.stretch_code.specs.Days.{rests}
use Rattle.stretch_code.proofs.Walked.{told, on}
use Rattle.stretch_code.proofs.year_days.YearDays.run_for.Goals as goal

pub first_for-requires : goal.first_for-requires
first_for-requires c =
    let n = (at_date _ _ _ c.next_rest-next.ensures).0 in
    let t = told c.args.self c.args.x in
    (omega arith, λ p. rw n (t.none _ (omega arith) (omega arith)))

pub next_date-requires : goal.next_date-requires
next_date-requires c = let a = c.args.self in rw c.next_rest-next.ensures (date_small a.length (next_at (rests a) a.length c.args.x) a.measured (omega (arith, (at_date _ _ _ c.next_rest-next.ensures).0)))

pub past-requires : goal.past-requires
past-requires c =
    let a = c.args.self in
    let n = at_date _ _ _ c.next_rest-next.ensures in
    let d = at_date _ _ _ (rw n.1 at c.next_date.ensures ∙ tomorrow_is a.length c.next_rest-next.result.after a.measured (omega arith)) in
    (omega arith, d.1)

pub past-requires-else-next-self : goal.past-requires-else-next-self
past-requires-else-next-self c = let d = at_date _ 0 _ c.date_after.ensures in (omega arith, d.1)

pub returns-then-next-self-clause-first : goal.returns-then-next-self-clause-first
unfolding first_for
returns-then-next-self-clause-first c =
    let n = (at_date _ _ _ c.next_rest-next.ensures).0 in rw (← n, lt-ltb _ _ c.if-next-self.true) c.first_for.ensures.0

pub returns-then-next-self-clause-past : goal.returns-then-next-self-clause-past
unfolding past_for
returns-then-next-self-clause-past c =
    let a = c.args.self in
    let n = at_date _ _ _ c.next_rest-next.ensures in
    let d = (at_date _ _ _ (rw n.1 at c.next_date.ensures ∙ tomorrow_is a.length c.next_rest-next.result.after a.measured (omega arith))).0 in
    let o = rw (← n.0) at (on a c.args.x (omega arith) (omega arith)) in
    rw (← n.0, lt-ltb _ _ c.if-next-self.true) (rw d at c.past.ensures.0 ∙ o)

pub returns-then-next-self-clause-order : goal.returns-then-next-self-clause-order
returns-then-next-self-clause-order c =
    let a = c.args.self in
    let n = at_date _ _ _ c.next_rest-next.ensures in
    let d = (at_date _ _ _ (rw n.1 at c.next_date.ensures ∙ tomorrow_is a.length c.next_rest-next.result.after a.measured (omega arith))).0 in
    let m = a.measured in omega arith

pub returns-else-next-self-clause-first : goal.returns-else-next-self-clause-first
unfolding first_for
returns-else-next-self-clause-first c =
    let n = (at_date _ _ _ c.next_rest-next.ensures).0 in rw (← n, le-ltb _ _ c.if-next-self.false)

pub returns-else-next-self-clause-past : goal.returns-else-next-self-clause-past
unfolding past_for
returns-else-next-self-clause-past c =
    let n = (at_date _ _ _ c.next_rest-next.ensures).0 in
    let d = (at_date _ 0 _ c.date_after.ensures).0 in
    let z : c.args.self.length - 0 ≡ c.args.self.length = omega arith in
    rw (← n, le-ltb _ _ c.if-next-self.false, rw (d, z) at c.past-else-next-self.ensures.0)
