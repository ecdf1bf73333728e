use Rattle.std.proofs.Common.{arith, ◌≡◌, true, false, sym, ◌∙◌}
use Rattle.hebrew.proofs.Walked.{date_small, tomorrow_is}
use Rattle.stretch.proofs.Walk.{search_here, search_on, search_end}
use Rattle.stretch_code.proofs.year_days.YearDays.first_from.Goals as goal

pub returns-then-wanted : goal.returns-then-wanted
returns-then-wanted g c p tells =
    let k = c.loop.counter in
    let length = c.args.self.length in
    let i = c.loop.invariant in
    let e : p k ≡ true = sym (tells k true (omega arith) (rw (i.0, c.if-wanted.true) at c.wanted.ensures)) in
    rw (i.1 p tells, search_here p length k (omega arith) e) i.0

pub next_date-date-requires : goal.next_date-date-requires
next_date-date-requires g c =
    let a = c.args.self in rw c.loop.invariant.0 (date_small a.length c.loop.counter a.measured (omega arith))

pub loop-preserved : goal.loop-preserved
loop-preserved g c =
    let k = c.loop.counter in
    let a = c.args.self in
    let i = c.loop.invariant in
    let d = rw i.0 at c.next_date-date.ensures in (
      d ∙ tomorrow_is a.length k a.measured (omega arith),
      λ p tells.
          let e : p k ≡ false = sym (tells k false (omega arith) (rw (i.0, c.if-wanted.false) at c.wanted.ensures)) in
          rw (i.1 p tells) (search_on p a.length k (omega arith) e),
    )

pub returns : goal.returns
returns g c p tells =
    let i = c.loop.invariant in
    rw (i.1 p tells, search_end p c.args.self.length c.loop.counter (omega arith)) i.0
