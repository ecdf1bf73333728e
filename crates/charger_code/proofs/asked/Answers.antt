use Rattle.std.proofs.Common.{rules, ◌≡◌, sym, ◌∙◌, ◌+◌}
use Rattle.rest.specs.Wings.{table_of}
use Rattle.rest_table.specs.Wing.{number_of}
use Rattle.stretch.specs.Answers.{no_stretch, stretch_answer}
use Rattle.stretch_code.specs.Found.{told}
use Rattle.charger.specs.Answers.{no_start}
use Rattle.charger_code.specs.Charged.{charged}
use Rattle.charger_code.proofs.Chosen.{none_ahead, none_after, later, past_in_range, after}
use Rattle.charger_code.proofs.asked.Goals as goal

pub returns-in_err-ahead : goal.returns-in_err-ahead
returns-in_err-ahead c =
    let wing = c.in_ok-wing.wing in
    let i = sym c.out_of_range.ensures ∙ c.if-out_of_range.false in
    let g = sym c.bad_figures.ensures ∙ c.if-bad_figures.false in
    let e : no_stretch 9 ≡ stretch_answer (table_of (number_of wing)) c.args.day = search rules in
    let r : charged c.from_residual-in_err-ahead.result ≡ no_start 9 = search rules in
    rw (← c.in_ok-wing.ensures) (r ∙ sym (none_ahead wing c.args.day c.args.figures i g e))

pub stretch_from-requires-then-ahead-day : goal.stretch_from-requires-then-ahead-day
stretch_from-requires-then-ahead-day c =
    let wing = c.in_ok-wing.wing in
    let i = sym c.out_of_range.ensures ∙ c.if-out_of_range.false in
    let g = sym c.bad_figures.ensures ∙ c.if-bad_figures.false in
    let e : told c.in_ok-ahead.ahead ≡ stretch_answer (table_of (number_of wing)) c.args.day = search rules in
    past_in_range wing c.args.day c.args.figures i g c.in_ok-ahead.ahead e

pub returns-in_err-next : goal.returns-in_err-next
returns-in_err-next c =
    let wing = c.in_ok-wing.wing in
    let s = c.in_ok-ahead.ahead in
    let i = sym c.out_of_range.ensures ∙ c.if-out_of_range.false in
    let g = sym c.bad_figures.ensures ∙ c.if-bad_figures.false in
    let e : told s ≡ stretch_answer (table_of (number_of wing)) c.args.day = search rules in
    let n : no_stretch 9 ≡ stretch_answer (table_of (number_of wing)) (s.first + s.length) = search rules in
    let r : charged c.from_residual-in_err-next.result ≡ no_start 9 = search rules in
    rw (← c.in_ok-wing.ensures) (r ∙ sym (none_after wing c.args.day c.args.figures i g s e c.if-ahead-day.true n))

pub returns-then-ahead-day : goal.returns-then-ahead-day
returns-then-ahead-day c =
    let wing = c.in_ok-wing.wing in
    let s = c.in_ok-ahead.ahead in
    let i = sym c.out_of_range.ensures ∙ c.if-out_of_range.false in
    let g = sym c.bad_figures.ensures ∙ c.if-bad_figures.false in
    let e : told s ≡ stretch_answer (table_of (number_of wing)) c.args.day = search rules in
    let n : told c.in_ok-next.next ≡ stretch_answer (table_of (number_of wing)) (s.first + s.length) = search rules in
    rw (← c.in_ok-wing.ensures) (c.planned.ensures ∙ sym (after wing c.args.day c.args.figures i g s e c.if-ahead-day.true (told c.in_ok-next.next) n))

pub returns : goal.returns
returns c =
    let wing = c.in_ok-wing.wing in
    let s = c.in_ok-ahead.ahead in
    let i = sym c.out_of_range.ensures ∙ c.if-out_of_range.false in
    let g = sym c.bad_figures.ensures ∙ c.if-bad_figures.false in
    let e : told s ≡ stretch_answer (table_of (number_of wing)) c.args.day = search rules in
    rw (← c.in_ok-wing.ensures) (c.planned-2.ensures ∙ sym (later wing c.args.day c.args.figures i g s e c.if-ahead-day.false))
