-- Six bytes of the input, or more, tell the number on its first line: five figures, and what follows them. What a part
-- of the input has of the later lines is a part of those.
use mathlib.Core.Path.{◌≡◌, refl, sym, ap}
use mathlib.Core.Bool.{Bool, true, false, cond}
use mathlib.Core.List.{List, [], ◌∷◌}
use mathlib.Core.Logic.{by_cases}
use Prim.Native.Nat.{ℕ, zero, suc, ◌+◌, ◌-◌, ◌≤◌, ◌<◌}
use native.Mathlib.Decide.{dec_le}
use native.Mathlib.Omega.{arith}
use borrow.Author.Tests.{lt-ltb, le-ltb}
use lib.Dec.{eqb}
use lib.ListN.{length, take}
use lib.Seq.{length-take-le, take_all, take-nil}
use Rattle.line.specs.Line.{first_line, after_line}
use Rattle.line.specs.Answers.{line_answer, line_of}

cut : (b : Bool) (n byte : ℕ) (l line : List ℕ) → first_line l ≡ take n line → cond b [] (byte ∷ first_line l) ≡ take (suc n) (cond b [] (byte ∷ line))
cut true n byte l line e = refl
cut false n byte l line e = ap (λ (x : List ℕ). byte ∷ x) e

-- The first line of a part is that part of the first line.
line_of_part : (n : ℕ) (input : List ℕ) → first_line (take n input) ≡ take n (first_line input)
unfolding first_line
line_of_part zero input = refl
line_of_part (suc n) [] = refl
line_of_part (suc n) (byte ∷ l) = cut (eqb byte 10) n byte (take n l) (first_line l) (line_of_part n l)

-- A line that is too long is refused, and so is its part.
long : (l : List ℕ) → 5 < length l → line_of l ≡ record { refusal = 1; number = 0 }
unfolding line_of
long l h = rw (le-ltb (length l) 1 (omega arith), lt-ltb 5 (length l) h)

part : (n : ℕ) (l : List ℕ) → 6 ≤ n → line_of (take n l) ≡ line_of l
part n l m =
    by_cases (dec_le (length l) n)
    (λ s. rw (take_all n l s))
    (λ s. rw (long l (omega arith)) (long (take n l) (rw (length-take-le n l (omega arith)) (omega arith))))

pub enough : (n : ℕ) (input : List ℕ) → 6 ≤ n → line_answer (take n input) ≡ line_answer input
unfolding line_answer
enough n input m = rw (line_of_part n input) (part n (first_line input) m)

-- A line that is too long has the number 0.
pub long_line : (input : List ℕ) → 5 < length (first_line input) → (line_answer input).number ≡ 0
unfolding line_answer
long_line input h = rw (long (first_line input) h)

-- The part of the later lines is what the first line and its line feed leave.
later_part :
    (b : Bool) (n byte : ℕ) (l line lines : List ℕ) → after_line (take n l) ≡ take (n - suc (length line)) lines →
    cond b (take n l) (after_line (take n l)) ≡ take (suc n - suc (length (cond b [] (byte ∷ line)))) (cond b l lines)
later_part true n byte l line lines e = let m : suc n - 1 ≡ n = omega arith in rw m
later_part false n byte l line lines e = let m : suc n - suc (suc (length line)) ≡ n - suc (length line) = omega arith in rw m e

pub after_part : (n : ℕ) (input : List ℕ) → after_line (take n input) ≡ take (n - suc (length (first_line input))) (after_line input)
unfolding first_line after_line
after_part zero input = let none : 0 - suc (length (first_line input)) ≡ 0 = omega arith in rw none
after_part (suc n) [] = sym (take-nil (suc n - 1))
after_part (suc n) (byte ∷ l) = later_part (eqb byte 10) n byte l (first_line l) (after_line l) (after_part n l)

-- Six bytes more, for a line before the others: an answer by the first line's number, which does not hang on the later
-- lines where that number is 0, and to which n bytes of those tell enough, is told by n + 6 bytes of the input.
pub line_before :
    {A : Type 0} (n : ℕ) (input : List ℕ) (answer : ℕ → List ℕ → A) → ((k l : List ℕ) → answer 0 k ≡ answer 0 l) →
    ((m x : ℕ) → n ≤ m → answer x (take m (after_line input)) ≡ answer x (after_line input)) → let part = take (n + 6) input in
    answer (line_answer part).number (after_line part) ≡ answer (line_answer input).number (after_line input)
line_before n input answer none later =
    by_cases (dec_le (length (first_line input)) 5)
    (λ s. rw (enough (n + 6) input (omega arith), after_part (n + 6) input) (later (n + 6 - suc (length (first_line input))) _ (omega arith)))
    (λ s. rw (enough (n + 6) input (omega arith), long_line input (omega arith)) (none _ _))
