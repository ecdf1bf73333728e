use mathlib.Core.Path.{sym}
use Prim.Native.Nat.{◌≤◌}
use native.Mathlib.Omega.{arith}
use lib.ListN.{length}
use Rattle.sheet.specs.Promises.{offset_told, rows_told}
use Rattle.accepted.proofs.Refusal.{accepted}
use Rattle.loaded_code.proofs.Placed.{refused_rows, off_answer, on_answer, entry_inside}
use Rattle.loaded_code.proofs.years.year_place.Goals as goal

pub returns-in-Some : goal.returns-in-Some
returns-in-Some c = refused_rows c.args.wing c.args.sheet.now c.args.year _ c.in-Some.ensures

pub number_at-first_year-requires : goal.number_at-first_year-requires
number_at-first_year-requires c =
    let long : 16 ≤ length c.args.sheet.now = (accepted c.args.wing c.args.sheet.now (sym c.in_default.ensures)).0 in (omega arith, omega arith)

pub number_at-requires : goal.number_at-requires
number_at-requires c =
    let long : 16 ≤ length c.args.sheet.now = (accepted c.args.wing c.args.sheet.now (sym c.in_default.ensures)).0 in (omega arith, omega arith)

pub returns-then-not-contains : goal.returns-then-not-contains
returns-then-not-contains c =
    let outside = rw (c.number_at-first_year.ensures.0, c.number_at.ensures.0) at c.if-not-contains.ensures.value in
    off_answer c.args.wing c.args.sheet.now c.args.year (sym c.in_default.ensures) outside

pub number_at-requires-2 : goal.number_at-requires-2
number_at-requires-2 c =
    let f = c.number_at-first_year.ensures.0 in
    let on = rw (f, c.number_at.ensures.0) at c.if-not-contains.ensures.value in
    let e = entry_inside c.args.wing c.args.sheet.now c.args.year (sym c.in_default.ensures) on in
    rw f (omega arith, omega arith)

pub number_at-requires-3 : goal.number_at-requires-3
number_at-requires-3 c =
    let f = c.number_at-first_year.ensures.0 in
    let on = rw (f, c.number_at.ensures.0) at c.if-not-contains.ensures.value in
    let e = entry_inside c.args.wing c.args.sheet.now c.args.year (sym c.in_default.ensures) on in
    rw f (omega arith, omega arith)

pub returns : goal.returns
unfolding offset_told rows_told
returns c =
    let f = c.number_at-first_year.ensures.0 in
    let on = rw (f, c.number_at.ensures.0) at c.if-not-contains.ensures.value in
    rw (c.number_at-2.ensures.0, c.number_at-3.ensures.0, f) (on_answer c.args.wing c.args.sheet.now c.args.year (sym c.in_default.ensures) on)
