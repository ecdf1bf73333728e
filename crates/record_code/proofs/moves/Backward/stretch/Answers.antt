use Rattle.std.proofs.Common.{ap, sym, ◌∙◌, ◌≡◌}
use Rattle.stretch.specs.Answers.{wing_stretch}
use Rattle.stretch.specs.declared.StretchAnswer.{StretchAnswer}
use Rattle.stretch_code.proofs.Named.{by_table}
use Rattle.record.specs.Steps.{stretch_backward}
use Rattle.record_code.proofs.Kept.{back_kept, back_other, back_anew}
use Rattle.record_code.proofs.moves.Backward.stretch.Goals as goal
use Rattle.record_code.proofs.moves.Backward.stretch.Goals.{in_default-via-in-Some+else-stands, in_default-via-in_default}

pub returns-in-Some : goal.returns-in-Some
returns-in-Some c =
    let m = c.args.self.now in
    let k = c.in-Some.ensures in
    let f = ap (λ (t : StretchAnswer). t.first) k.1 in
    k.1 ∙ sym (back_kept m.record c.args.x.date m.day m.moved k.0 (rw f at (sym c.stands.ensures ∙ c.if-stands.true)))

pub returns-in_default : goal.returns-in_default
returns-in_default c =
    let m = c.args.self.now in
    let e : stretch_backward m.record c.args.x.date ≡ wing_stretch m.record.wing m.day =
    elim c.in_default.branch [
      | in_default-via-in-Some+else-stands w ↦
          let k = w.in-Some.ensures in
          let f = ap (λ (t : StretchAnswer). t.first) k.1 in
          back_other m.record c.args.x.date m.day m.moved k.0 (rw f at (sym w.stands.ensures ∙ w.if-stands.false))
      | in_default-via-in_default w ↦ back_anew m.record c.args.x.date m.day m.moved w.in_default.ensures
    ] in
    c.stretch_from.ensures ∙ by_table m.wing m.day ∙ rw m.its_wing (sym e)
