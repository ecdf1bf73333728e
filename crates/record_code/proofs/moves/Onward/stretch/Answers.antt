use Rattle.std.proofs.Common.{sym, ◌∙◌}
use Rattle.stretch_code.proofs.Named.{by_table}
use Rattle.record_code.proofs.Kept.{on_kept, on_anew}
use Rattle.record_code.proofs.moves.Onward.stretch.Goals as goal

pub returns-in-Some : goal.returns-in-Some
returns-in-Some c =
    let m = c.args.self.now in
    let k = c.in-Some.ensures in k.1 ∙ sym (on_kept m.record m.day m.moved k.0)

pub returns-in-None : goal.returns-in-None
returns-in-None c =
    let m = c.args.self.now in
    c.stretch_from.ensures ∙ by_table m.wing m.day ∙ rw m.its_wing (sym (on_anew m.record m.day m.moved c.in-None.ensures))
