use mathlib.Core.Path.{◌≡◌}
use mathlib.Core.Bool.{false}
use borrow.Author.Tests.{le-ltb}
use Rattle.molad.specs.Years.{last_year, out_of_years}
use Rattle.hebrew.specs.Rows.{row_day, row_good}
use Rattle.lists.proofs.Lists.{days_length}
use Rattle.lists_code.proofs.Rows.{row_passes}
use Rattle.rest_code.proofs.table_days.Goals as goal

pub list_days-requires : goal.list_days-requires
list_days-requires c = row_passes c.args.table.now (row_good c.args.span.length) c.requires

pub returns : goal.returns
returns c =
    let e = c.args.span.is_span in
    let good : out_of_years c.args.span.year ≡ false = rw (le-ltb c.args.span.year 1 e.first, le-ltb last_year c.args.span.year e.last) in
    let w = c.list_days.ensures (row_day c.args.span.year) (λ i n h t. t) c.args.span.year good in
    (rw (days_length (row_day c.args.span.year) c.args.table.now) w.0, w.1)
