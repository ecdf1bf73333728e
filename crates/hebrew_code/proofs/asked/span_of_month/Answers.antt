use mathlib.Core.Path.{◌≡◌, refl}
use Rattle.molad.specs.Years.{leap}
use Rattle.molad.specs.Molad.{no_month}
use Rattle.hebrew_code.proofs.Spanned.{month_told}
use Rattle.hebrew_code.proofs.asked.span_of_month.Goals as goal
use Rattle.hebrew_code.proofs.asked.span_of_month.Goals.{After-no_month}

told : (c : After-no_month) → no_month (leap c.args.year) c.args.month ≡ c.no_month.result
told c = rw (← c.in_ok-span.ensures.1) (month_told c.args.month c.in_ok-span.span c.no_month.result c.no_month.ensures)

pub returns-then-no_month : goal.returns-then-no_month
returns-then-no_month c = rw (c.in_ok-span.ensures.0, told c.before, c.if-no_month.true) (refl, refl)

pub returns : goal.returns
returns c = (c.in_ok-span.ensures.0, (rw (told c.before) c.if-no_month.false, c.in_ok-span.ensures.1))
