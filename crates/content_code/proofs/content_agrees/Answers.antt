-- Year by year.
use mathlib.Core.Path.{refl, sym, ◌∙◌}
use native.Mathlib.Omega.{arith}
use Rattle.laws.specs.Runs.{every}
use Rattle.content.specs.Content.{content_agrees}
use Rattle.content_code.proofs.Compared.{year_more, year_differs}
use Rattle.content_code.proofs.content_agrees.Goals as goal

pub loop-i-init : goal.loop-i-init
unfolding content_agrees every
loop-i-init c = refl

pub returns-then-not-year_agrees : goal.returns-then-not-year_agrees
returns-then-not-year_agrees c =
    let a = c.args in
    let e = rw c.year_span.ensures at c.year_agrees.ensures in
    sym (year_differs a.wing a.sheet.now a.years.first a.years.count c.loop-i.i (omega arith) (sym e ∙ c.if-not-year_agrees.true))

pub loop-i-preserved : goal.loop-i-preserved
loop-i-preserved c =
    let a = c.args in
    let e = rw c.year_span.ensures at c.year_agrees.ensures in
    rw (year_more a.wing a.sheet.now a.years.first c.loop-i.i, c.loop-i.invariant, ← e) c.if-not-year_agrees.false
