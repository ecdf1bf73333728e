-- Lines and figures: the first line and what follows it as parts of the input, one more figure, and how large a number
-- figures make.
use mathlib.Core.Path.{◌≡◌, refl, sym, ap, ◌∙◌}
use mathlib.Core.Bool.{Bool, true, false, not, cond, false≢true}
use mathlib.Core.List.{List, [], ◌∷◌, ◌++◌}
use mathlib.Core.Logic.{by_cases}
use Prim.Native.Nat.{ℕ, zero, suc, ◌+◌, ◌*◌, ◌-◌, ◌^◌, ◌≤◌, ◌<◌}
use native.Mathlib.Nat.{mul_assoc, pow-suc}
use native.Mathlib.Numerals.{add-one}
use native.Mathlib.Omega.{arith}
use native.Mathlib.Decide.{ℕ_discrete}
use borrow.Author.Tests.{not-true, le-ltb, ne_eqb}
use lib.Dec.{eqb}
use lib.ListN.{length, take, drop, length-append, length-drop}
use lib.Seq.{take_all}
use Rattle.std.specs.List.{position_or_len}
use Rattle.laws.specs.Runs.{each_of, elem}
use Rattle.laws.proofs.Tests.{within, and_left, and_right, or_left, or_right}
use Rattle.line.specs.Line.{first_line, after_line, figure, AllFigures, decimal}

-- The first line ends where the first line feed stands.
taken : (b : Bool) (byte : ℕ) (n : ℕ) (rest line : List ℕ) → take n rest ≡ line → take (cond (not b) (1 + n) 0) (byte ∷ rest) ≡ cond b [] (byte ∷ line)
taken true byte n rest line e = refl
taken false byte n rest line e = let q : 1 + n ≡ suc n = omega arith in rw q (ap (λ (l : List ℕ). byte ∷ l) e)

pub to_line_feed : (input : List ℕ) → take (position_or_len (λ b. eqb b 10) input) input ≡ first_line input
unfolding first_line
to_line_feed [] = refl
to_line_feed (byte ∷ rest) = taken (eqb byte 10) byte (position_or_len (λ b. eqb b 10) rest) rest (first_line rest) (to_line_feed rest)

-- The first line is what stands before the first line feed, or all if there is none; the lines after it are what stands
-- behind that line feed, or none.
pub lines_are :
    (line rest : List ℕ) → elem 10 line ≡ false → let input = line ++ 10 ∷ rest in
    ((first_line line ≡ line) × (after_line line ≡ [])) × ((first_line input ≡ line) × (after_line input ≡ rest))
unfolding first_line after_line
lines_are [] rest e = ((refl, refl), (refl, refl))
lines_are (x ∷ line) rest e =
    by_cases (ℕ_discrete x 10)
    (λ q. absurd (false≢true (sym (rw q at (or_left (eqb 10 x) _ e)))))
    (λ q.
    let i = lines_are line rest (or_right (eqb 10 x) _ e) in
    rw (ne_eqb x 10 q, i.0.0, i.0.1, i.1.0, i.1.1) ((refl, refl), (refl, refl)))

-- The later lines begin one byte past the first line's end.
behind :
    (b : Bool) (byte : ℕ) (rest line lines : List ℕ) → drop (suc (length line)) rest ≡ lines →
    drop (suc (length (cond b [] (byte ∷ line)))) (byte ∷ rest) ≡ cond b rest lines
behind true byte rest line lines e = refl
behind false byte rest line lines e = e

pub past_line : (input : List ℕ) → drop (suc (length (first_line input))) input ≡ after_line input
unfolding first_line after_line
past_line [] = refl
past_line (byte ∷ rest) = behind (eqb byte 10) byte rest (first_line rest) (after_line rest) (past_line rest)

-- So a part of the input that begins there and runs to the end is the later lines.
pub later_lines : (n : ℕ) (input : List ℕ) → drop n input ≡ after_line input → take (length input - n) (drop n input) ≡ after_line input
later_lines n input e = take_all (length input - n) (drop n input) (rw (length-drop n input) (omega arith)) ∙ e

-- Each byte of a line of figures is a figure, and a line whose bytes all are is one of figures.
pub figure_at : (l : List ℕ) → each_of l figure ≡ true → AllFigures l
unfolding each_of
figure_at [] e i h = absurd (omega arith)
figure_at (x ∷ l) e zero h = within 48 57 x (not-true _ (and_left _ _ e))
figure_at (x ∷ l) e (suc i) h = figure_at l (and_right (figure x) _ e) i (omega arith)

pub all_figures : (l : List ℕ) → AllFigures l → each_of l figure ≡ true
unfolding each_of
all_figures [] f = refl
all_figures (x ∷ l) f =
    let this = f 0 (omega arith) in
    rw (le-ltb x 48 this.0, le-ltb 57 x this.1) (all_figures l (λ i h. f (suc i) (omega arith)))

pub decimal_none : decimal [] ≡ 0
unfolding decimal
decimal_none = refl

-- One figure more makes the number tenfold and adds what the figure stands for.
pub decimal_more : (l : List ℕ) (byte : ℕ) → decimal (l ++ (byte ∷ [])) ≡ decimal l * 10 + (byte - 48)
unfolding decimal
decimal_more [] byte = omega arith
decimal_more (x ∷ l) byte =
    let n : length (l ++ (byte ∷ [])) ≡ suc (length l) = length-append l (byte ∷ []) ∙ omega arith in
    let e : (x - 48) * 10 ^ suc (length l) ≡ (x - 48) * 10 ^ length l * 10 = rw (pow-suc 10 (length l)) (sym (mul_assoc (x - 48) (10 ^ length l) 10)) in
    rw (n, e) (omega (arith, decimal_more l byte))

-- One figure more stays below the next power of ten.
pub below_more : (n i d : ℕ) → n < 10 ^ i → d ≤ 9 → n * 10 + d < 10 ^ (i + 1)
below_more n i d l u = rw (add-one, pow-suc 10 i) (omega arith)
