use Rattle.std.proofs.Common.{rules, ◌≡◌, false}
use Rattle.rest.specs.Wings.{out_of_wings}
use Rattle.stretch_code.proofs.Named.{named}
use Rattle.record.specs.Steps.{record_back}
use Rattle.record.specs.Answers.{back_of}
use Rattle.record_code.proofs.Tested.{back_tested}
use Rattle.record_code.proofs.calls.moved_back.Goals as goal

pub returns-then-r : goal.returns-then-r
unfolding back_of
returns-then-r c = rw (← back_tested c.args.r.day, c.if-r.true)

pub returns-in_err-wing : goal.returns-in_err-wing
unfolding back_of
returns-in_err-wing c = let e = back_tested c.args.r.day in let f = c.if-r.false in search rules

pub returns : goal.returns
unfolding back_of record_back
returns c =
    let i : out_of_wings c.args.r.wing ≡ false = rw (← c.in_ok-wing.ensures) (named c.in_ok-wing.wing) in
    rw (← back_tested c.args.r.day, c.if-r.false, i, c.joined.ensures, c.stretch.ensures, c.fast.ensures, c.date-x.ensures, c.in_ok-wing.ensures)
