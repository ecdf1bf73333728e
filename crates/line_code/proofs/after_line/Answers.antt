use Rattle.std.proofs.Common.{◌≡◌, suc, length, take, arith, sym, ◌∙◌}
use lib.ListN.{drop_of_length-le}
use lib.Seq.{length-take-le, drop-length}
use mathlib.Core.Logic.{by_cases}
use native.Mathlib.Decide.{dec_lt}
use Rattle.line.specs.Line.{first_line}
use Rattle.line.proofs.Lines.{to_line_feed, past_line}
use Rattle.line_code.proofs.after_line.Goals as goal

-- Past the first line and its line feed, or at the end, where the input is that line alone.
pub returns : goal.returns
returns c =
    let s = c.args.input.now in
    let before : take c.find.result s ≡ first_line s = rw c.find.ensures.first (to_line_feed s) in
    let line : length (first_line s) ≡ c.find.result = rw (← before) (length-take-le c.find.result s c.find.ensures.within) in
    let past = past_line s in (
      omega (arith, c.min.ensures),
      by_cases (dec_lt c.find.result (length s))
          (λ h. let n : c.min.result ≡ suc (length (first_line s)) = omega (arith, c.min.ensures, line) in rw n past)
          (λ h. let n : c.min.result ≡ length s = omega (arith, c.min.ensures) in rw (n, drop-length s) (sym (drop_of_length-le s {i = suc (length (first_line s))} (omega (arith, line))) ∙ past)),
    )
