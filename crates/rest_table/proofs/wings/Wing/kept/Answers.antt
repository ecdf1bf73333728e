use Rattle.std.proofs.Common.{◌≡◌, refl, sym, ◌∙◌, true}
use Rattle.laws.specs.Runs.{each_of, elem}
use Rattle.laws.proofs.Tests.{of}
use Rattle.rest.specs.Table.{rest_table, guest_table}
use Rattle.rest.proofs.Tables.{of_both}
use Rattle.rest_table.specs.Wing.{number_of}
use Rattle.rest_table.proofs.Rows.{hall_rows, guest_rows, any_elem}
use Rattle.rest_table.proofs.wings.Wing.kept.Goals as goal

pub returns-then-contains : goal.returns-then-contains
unfolding each_of
returns-then-contains c =
    let row = c.args.row in
    let e : elem row rest_table ≡ true = sym (any_elem row rest_table) ∙ sym c.contains.ensures.value ∙ c.if-contains.true in
    sym (of_both (λ table. elem row table ≡ true) e (of rest_table (λ r. elem r guest_table) refl row e) (number_of c.args.self))

pub returns-in-Hall : goal.returns-in-Hall
returns-in-Hall c =
    rw (hall_rows _ c.in-Hall.is) (sym c.if-contains.false ∙ c.contains.ensures.value ∙ any_elem c.args.row rest_table)

pub returns-in-Guest : goal.returns-in-Guest
returns-in-Guest c = rw (guest_rows _ c.in-Guest.is) (c.contains-in-Guest.ensures.value ∙ any_elem c.args.row guest_table)
