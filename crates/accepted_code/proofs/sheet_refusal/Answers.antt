use mathlib.Core.Path.{sym, ◌∙◌}
use Rattle.accepted_code.proofs.Asked.{no_wing, too_short, odd_years, misplaced, within, different, alike}
use Rattle.accepted_code.proofs.sheet_refusal.Goals as goal

pub returns-in-Err : goal.returns-in-Err
returns-in-Err c = rw c.in-Err.ensures.0 (sym (no_wing c.args.wing c.args.sheet.now c.in-Err.ensures.1))

pub returns-then-sheet-lt16 : goal.returns-then-sheet-lt16
returns-then-sheet-lt16 c = sym (too_short c.in-Ok.wing c.args.wing c.args.sheet.now c.in-Ok.ensures c.if-sheet-lt16.true)

pub returns-in_default : goal.returns-in_default
returns-in_default c =
    let r = rw (c.number_at.ensures.0, c.number_at-2.ensures.0) at c.in_default.ensures in
    sym (odd_years c.in-Ok.wing c.args.wing c.args.sheet.now c.in-Ok.ensures c.if-sheet-lt16.false r.bad)

pub returns-then-not-all_placed : goal.returns-then-not-all_placed
returns-then-not-all_placed c =
    let y = rw (c.number_at.ensures.0, c.number_at-2.ensures.0) at c.in-Ok-new.ensures in
    sym (misplaced c.in-Ok.wing c.args.wing c.args.sheet.now c.in-Ok.ensures c.if-sheet-lt16.false c.in-Ok-new.years y (sym c.all_placed.ensures ∙ c.if-not-all_placed.true))

pub content_agrees-requires : goal.content_agrees-requires
content_agrees-requires c =
    let y = rw (c.number_at.ensures.0, c.number_at-2.ensures.0) at c.in-Ok-new.ensures in
    within c.in-Ok.wing c.args.wing c.args.sheet.now c.in-Ok.ensures c.if-sheet-lt16.false c.in-Ok-new.years y (sym c.all_placed.ensures ∙ c.if-not-all_placed.false)

pub returns-then-not-content_agrees : goal.returns-then-not-content_agrees
returns-then-not-content_agrees c =
    let y = rw (c.number_at.ensures.0, c.number_at-2.ensures.0) at c.in-Ok-new.ensures in
    let p = sym c.all_placed.ensures ∙ c.if-not-all_placed.false in
    let a = rw c.number.ensures at c.content_agrees.ensures in
    sym (different c.in-Ok.wing c.args.wing c.args.sheet.now c.in-Ok.ensures c.if-sheet-lt16.false c.in-Ok-new.years y p (sym a ∙ c.if-not-content_agrees.true))

pub returns : goal.returns
returns c =
    let y = rw (c.number_at.ensures.0, c.number_at-2.ensures.0) at c.in-Ok-new.ensures in
    let p = sym c.all_placed.ensures ∙ c.if-not-all_placed.false in
    let a = rw c.number.ensures at c.content_agrees.ensures in
    sym (alike c.in-Ok.wing c.args.wing c.args.sheet.now c.in-Ok.ensures c.if-sheet-lt16.false c.in-Ok-new.years y p (sym a ∙ c.if-not-content_agrees.false))
