-- A line that is refused has the number 0, which is no year and no month: so the numbers that `number_on_line` tells of
-- two lines ask for the notice on them.
use mathlib.Core.Path.{◌≡◌, refl}
use mathlib.Core.Bool.{Bool, true, false, cond, ◌||◌}
use mathlib.Core.List.{List}
use Prim.Native.Nat.{ℕ}
use Rattle.line.specs.Line.{first_line, after_line, decimal}
use Rattle.line.specs.Answers.{no_number, line_answer}
use Rattle.line.proofs.Answers.{number_of}
use Rattle.molad.specs.Years.{out_of_years, leap}
use Rattle.molad.specs.Molad.{no_month}
use Rattle.notice.specs.Answers.{no_notice, notice_answer}
use Rattle.notice.specs.declared.NoticeAnswer.{NoticeAnswer}
use Rattle.wording.specs.Answers.{notice_on, notice_on_lines}

-- Asked twice, a test tells the same.
twice : (p q : Bool) (a b x : NoticeAnswer) → cond p a (cond q b x) ≡ cond p a (cond q b (cond p a (cond q b x)))
twice true q a b x = refl
twice false true a b x = refl
twice false false a b x = refl

by_number :
    (a b : Bool) (h code : ℕ) →
    notice_answer (cond a 0 h) (cond b 0 code)
    ≡ cond (a || out_of_years h) (no_notice 1) (cond (b || no_month (leap h) code) (no_notice 2) (notice_answer h code))
unfolding notice_answer no_month
by_number true b h code = refl
by_number false true h code = refl
by_number false false h code = twice (out_of_years h) (no_month (leap h) code) _ _ _

pub by_numbers : (input : List ℕ) → notice_answer (line_answer input).number (line_answer (after_line input)).number ≡ notice_on_lines input
unfolding line_answer notice_on_lines notice_on
by_numbers input =
    let first = first_line input in
    let second = first_line (after_line input) in
    rw (number_of first, number_of second) (by_number (no_number first) (no_number second) (decimal first) (decimal second))
