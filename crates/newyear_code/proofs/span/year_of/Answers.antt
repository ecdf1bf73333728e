use mathlib.Core.Path.{◌∙◌}
use lib.Dec.{ltb}
use native.Mathlib.Omega.{arith}
use Rattle.newyear.proofs.YearOf.{tells}
use Rattle.newyear_code.proofs.span.year_of.Goals as goal

pub returns : goal.returns
returns c =
    let day = c.begins-tishri.ensures.day in
    let t = tells c.args.day (omega arith) (omega arith) (ltb c.args.day c.begins-tishri.result.new_year) (rw day) in
    record {
      year = rw (← t.year) c.pick.ensures.0;
      told = day ∙ t.told;
      other = rw (← t.other) c.pick-2.ensures.0;
    }
