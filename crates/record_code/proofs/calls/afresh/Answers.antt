use Rattle.std.proofs.Common.{rules}
use Rattle.stretch_code.proofs.Named.{named}
use Rattle.record.specs.Record.{afresh}
use Rattle.record.specs.Answers.{set_to}
use Rattle.record_code.proofs.calls.afresh.Goals as goal

pub returns-in_err-wing : goal.returns-in_err-wing
unfolding set_to
returns-in_err-wing c r = search rules

pub returns-in_err-span : goal.returns-in_err-span
unfolding set_to
returns-in_err-span c r = search rules

pub returns : goal.returns
unfolding set_to afresh
returns c r =
    rw (← c.in_ok-wing.ensures, named c.in_ok-wing.wing, c.in_ok-span.ensures.0, c.joined.ensures, c.dated_in-x.ensures, c.stretch_in-s.ensures, c.ahead_in.ensures)
