use Prim.Native.Nat.{◌-◌, ◌<◌}
use native.Mathlib.Omega.{arith}
use borrow.Author.Rules.{rules}
use lib.ListN.{length}
use Rattle.loaded_code.proofs.Walkers.{goes_on}
use Rattle.loaded_code.proofs.walk.WalkerIterator.next.Goals as goal

pub returns-else-step-eq0-clause-goes : goal.returns-else-step-eq0-clause-goes
returns-else-step-eq0-clause-goes c =
    let w = c.args.self.now in
    let s = c.step_at-step in
    let p = goes_on w.sheet.now w.row (rw s.ensures at c.if-step-eq0.false) in
    let less : length w.sheet.now - s.result.next < length w.sheet.now - w.row = rw s.ensures (omega (arith, p.0, p.1)) in
    search (rules, less)
