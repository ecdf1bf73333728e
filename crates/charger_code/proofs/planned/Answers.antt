use Rattle.std.proofs.Common.{rules}
use borrow.Author.Tests.{lt-ltb, le-ltb}
use Rattle.charger.specs.Answers.{planned}
use Rattle.charger.proofs.Hours.{hours_small}
use Rattle.charger_code.proofs.planned.Goals as goal

pub returns-then-figures-need : goal.returns-then-figures-need
unfolding planned
returns-then-figures-need c = rw (lt-ltb _ _ c.if-figures-need.true)

pub overflow_add-from : goal.overflow_add-from
overflow_add-from c =
    let s = c.args.stretch in
    let h = rw (← c.hours_needed-hours.ensures) at (hours_small c.args.figures s.length c.requires.0 s.short) in search rules

pub returns-then-begins-from : goal.returns-then-begins-from
unfolding planned
returns-then-begins-from c = rw (le-ltb _ _ c.if-figures-need.false, ← c.hours_needed-hours.ensures, lt-ltb _ _ c.if-begins-from.true)

pub returns : goal.returns
unfolding planned
returns c = rw (le-ltb _ _ c.if-figures-need.false, ← c.hours_needed-hours.ensures, le-ltb _ _ c.if-begins-from.false)
