use Rattle.std.proofs.Common.{◌≡◌, ◌≤◌, ℕ, List, length, arith}
use lib.Seq.{length-take-le}
use mathlib.Core.Path.{sym, ap, ◌∙◌}
use Rattle.lists.specs.declared.ListAnswer.{ListAnswer}
use Rattle.filing.specs.Answers.{sheet_on_lines}
use Rattle.filing.proofs.Answers.{written_in_room}
use Rattle.filing_code.proofs.write.Goals as goal

-- The bytes that are written stand in the lent ones.
in_room : (input space : List ℕ) (told : ListAnswer) → told ≡ sheet_on_lines input space → told.refusal ≡ 0 → told.count ≤ length space
in_room input space told e done = rw (← e) at (written_in_room input space (sym (ap (λ (x : ListAnswer). x.refusal) e) ∙ done))

pub slice_bounds-space-end : goal.slice_bounds-space-end
slice_bounds-space-end g c = omega (arith, in_room _ _ _ c.sheet_on_lines-told.ensures.0 c.if-told-ne0.false)

pub slice_bounds-write_all-end : goal.slice_bounds-write_all-end
slice_bounds-write_all-end g c = sym (length-take-le _ _ (omega (arith, in_room _ _ _ c.sheet_on_lines-told.ensures.0 c.if-told-ne0.false)))
