-- The year's stretches are worked out into entries of its own, and each is compared with its row.
use mathlib.Core.Path.{sym, ◌∙◌}
use native.Mathlib.Omega.{arith}
use borrow.Author.Tests.{eq-eqb, ne_eqb}
use Rattle.newyear.specs.NewYear.{year_length}
use Rattle.rest.specs.Wings.{table_of}
use Rattle.stretches.specs.Stretches.{stretch_rows}
use Rattle.sheet.specs.Sheet.{rows_in}
use Rattle.sheet.specs.Promises.{offset_told, rows_told, length_told}
use Rattle.sheet_years.proofs.Listed.{listed}
use Rattle.content.specs.Content.{year_agrees}
use Rattle.content_code.proofs.year_agrees.Goals as goal

pub returns-then-number_at-span : goal.returns-then-number_at-span
unfolding year_agrees length_told
returns-then-number_at-span c =
    let a = c.args in
    rw (ne_eqb (length_told a.sheet.now a.i) (year_length a.span.year) (λ e. c.if-number_at-span.true (c.number_at.ensures.0 ∙ e ∙ sym a.span.is_span.days)))

pub returns-then-number_at-entries : goal.returns-then-number_at-entries
unfolding year_agrees length_told rows_told rows_in
returns-then-number_at-entries c =
    let a = c.args in
    let long = eq-eqb (length_told a.sheet.now a.i) (year_length a.span.year) (sym c.number_at.ensures.0 ∙ c.if-number_at-span.false ∙ a.span.is_span.days) in
    let n = c.year_rows-entries.ensures.0 in
    rw (long, ne_eqb (rows_told a.sheet.now a.i) (rows_in a.wing a.span.year) (λ e. c.if-number_at-entries.true (c.number_at-2.ensures.0 ∙ e ∙ rw (← n))))

pub rows_agree-requires : goal.rows_agree-requires
unfolding rows_told rows_in offset_told
rows_agree-requires c =
    let n = c.year_rows-entries.ensures in
    let list = listed (stretch_rows (table_of c.args.wing) c.args.span.year) _ _ _ n.0 n.1.1 in
    rw list (omega (arith, n.0, n.1.0), omega (arith, n.0, c.requires.1, c.number_at-2.ensures.0, c.if-number_at-entries.false, c.number_at-3.ensures.0))

pub returns : goal.returns
unfolding year_agrees length_told rows_told rows_in offset_told
returns c =
    let a = c.args in
    let n = c.year_rows-entries.ensures in
    let list = listed (stretch_rows (table_of a.wing) a.span.year) _ _ _ n.0 n.1.1 in
    let long = eq-eqb (length_told a.sheet.now a.i) (year_length a.span.year) (sym c.number_at.ensures.0 ∙ c.if-number_at-span.false ∙ a.span.is_span.days) in
    let many = eq-eqb (rows_told a.sheet.now a.i) (rows_in a.wing a.span.year) (rw (← n.0) (sym c.number_at-2.ensures.0 ∙ c.if-number_at-entries.false)) in
    rw (long, many, ← c.number_at-3.ensures.0) (rw list at c.rows_agree.ensures)
