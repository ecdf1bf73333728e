use Rattle.std.proofs.Common.{refl, sym}
use Rattle.charger.specs.Charging.{hours_needed}
use Rattle.charger.proofs.Hours.{no_hours}
use Rattle.charger_code.proofs.hours_needed.Goals as goal

pub returns-then-need-figures : goal.returns-then-need-figures
returns-then-need-figures c = sym (no_hours c.args.figures c.args.need c.requires.0.rate.0 c.if-need-figures.true)

pub returns : goal.returns
unfolding hours_needed
returns c = refl
