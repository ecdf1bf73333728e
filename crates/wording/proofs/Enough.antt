-- Twelve bytes of the input tell its answer: five figures and what follows them, twice.
use mathlib.Core.Path.{◌≡◌, refl, sym, ◌∙◌}
use mathlib.Core.List.{List}
use Prim.Native.Nat.{ℕ}
use lib.ListN.{take}
use Rattle.line.specs.Line.{after_line}
use Rattle.line.specs.Answers.{line_answer}
use Rattle.line.proofs.Enough.{line_before}
use Rattle.line.proofs.Enough.{enough as line-enough}
use Rattle.notice.specs.Answers.{no_notice, notice_answer}
use Rattle.wording.specs.Answers.{notice_on_lines}
use Rattle.wording.proofs.Numbers.{by_numbers}

-- Year 0 is refused, whatever the month.
no_year : (code : ℕ) → notice_answer 0 code ≡ no_notice 1
unfolding notice_answer
no_year code = refl

by_two_lines :
    (input : List ℕ) → let part = take 12 input in
    notice_answer (line_answer part).number (line_answer (after_line part)).number
    ≡ notice_answer (line_answer input).number (line_answer (after_line input)).number
by_two_lines input =
    line_before 6 input (λ h later. notice_answer h (line_answer later).number) (λ k l. no_year _ ∙ sym (no_year _))
    (λ m h s. rw (line-enough m (after_line input) s))

pub enough : (input : List ℕ) → notice_on_lines (take 12 input) ≡ notice_on_lines input
enough input = sym (by_numbers (take 12 input)) ∙ (by_two_lines input ∙ by_numbers input)
