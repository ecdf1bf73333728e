use Rattle.std.proofs.Common.{sym, ◌∙◌}
use mir.Facts.{to_z-of_z}
use Rattle.civil.specs.Answers.{civil_date}
use Rattle.civil_code.proofs.Steps.{date_of_day}
use Rattle.civil_code.proofs.to_date.Goals as goal

pub returns-then-out_of_range : goal.returns-then-out_of_range
unfolding civil_date
returns-then-out_of_range g c =
    let zero = c.default.ensures in
    rw (zero.1.0, zero.1.1.0, zero.1.1.1, ← c.out_of_range.ensures, c.if-out_of_range.true)

pub returns : goal.returns
returns g c =
    let o = sym c.out_of_range.ensures ∙ c.if-out_of_range.false in
    let f = c.month_of-found.result in
    rw (to_z-of_z (record { sfits = c.lowered.type_inv }), c.lowered.ensures)
    (date_of_day g.C.Calendar.rule g.met.C.Calendar.covers c.args.day o c.year_of-at.result c.year_of-at.ensures f.month f.day c.month_of-found.ensures)
