use mathlib.Core.Path.{sym}
use native.Mathlib.Omega.{arith}
use Rattle.loaded.specs.Walk.{ended_row, begun_at}
use Rattle.accepted.proofs.Accepted.{where_accepted, where_refused}
use Rattle.refusals.proofs.Named.{numbered}
use Rattle.loaded_code.proofs.walk.first_row.Goals as goal

pub returns-in-None : goal.returns-in-None
unfolding begun_at
returns-in-None c = sym (where_accepted c.args.wing c.args.sheet.now (λ n. record { refusal = n; row = ended_row }) _ (sym c.in-None.ensures))

pub returns-in-Some : goal.returns-in-Some
unfolding begun_at
returns-in-Some c =
    let e = c.in-Some.ensures in
    rw (c.number.ensures, e) (sym (where_refused c.args.wing c.args.sheet.now (λ n. record { refusal = n; row = ended_row }) _ (λ z. omega (arith, e, z, numbered c.in-Some.why))))
