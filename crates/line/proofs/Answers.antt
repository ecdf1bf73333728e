-- What `number_on_line` promises, and that its contract leaves one answer.
use mathlib.Core.Path.{◌≡◌, refl, sym, ap, ◌∙◌}
use mathlib.Core.Bool.{Bool, true, false, cond, not, false≢true}
use mathlib.Core.List.{List, [], ◌∷◌}
use mathlib.Core.Logic.{◌↔◌}
use Prim.Native.Nat.{ℕ, ◌≤◌}
use Rattle.std.specs.Prelude.{Option, Some, None}
use Rattle.std.specs.Option.{unwrap_or}
use Rattle.std.proofs.lemmas.Bool.{true_from_ne_false}
use native.Mathlib.Omega.{arith}
use borrow.Author.Tests.{not-true, not-false}
use lib.ListN.{length, drop, length-drop}
use Rattle.laws.specs.Runs.{each_of}
use Rattle.laws.specs.Promise.{◌else◌, Promised}
use Rattle.laws.proofs.One.{one_result}
use Rattle.laws.proofs.Promises.{Catches, let_pass, ranged, either, asks, answered}
use Rattle.line.specs.Line.{first_line, after_line, figure, AllFigures, IsNumber, decimal}
use Rattle.line.specs.Answers.{LineAnswer, no_number, line_of, line_answer, told}
use Rattle.line.proofs.Lines.{figure_at, all_figures}

-- A line with a byte that is no figure is caught.
figures_caught : (line : List ℕ) → Catches (not (each_of line figure)) (AllFigures line)
figures_caught line =
    record {
      passes = λ e. figure_at line (not-false _ e);
      catches = λ e m. false≢true (sym (not-true _ e) ∙ all_figures line m);
    }

-- So a line that is not one to five figures is.
pub number_caught : (line : List ℕ) → Catches (no_number line) (IsNumber line)
number_caught line = either (ranged 1 5 (length line)) (figures_caught line)

-- A line of one to five figures tells their number, and any other none.
module _ (line : List ℕ) where
  pub number_told : IsNumber line → line_of line ≡ told (Some (decimal line))
  unfolding line_of
  number_told m = rw (let_pass (number_caught line) m)

  pub none_told : (¬ IsNumber line) → line_of line ≡ told None
  unfolding line_of
  none_told m = rw (true_from_ne_false (no_number line) (λ e. m ((number_caught line).passes e)))

pub number_on_line_promised :
    (input : List ℕ) → let line = first_line input in
    Promised (λ (r : LineAnswer). r.refusal)
    (IsNumber line else 1 ∷ [])
    (λ r. r.number ≡ decimal line)
    (λ n r. r.number ≡ 0)
    (line_answer input)
unfolding line_answer line_of
number_on_line_promised input =
    let line = first_line input in
    asks (record { refusal = 1; number = 0 }) (number_caught line) (omega arith) refl refl (λ _.
    answered refl refl)

-- A line that is refused has the number 0.
picked :
    (b : Bool) (n : ℕ) → let r : LineAnswer = cond b (record { refusal = 1; number = 0 }) (record { refusal = 0; number = n }) in
    r.number ≡ cond b 0 n
picked true n = refl
picked false n = refl

pub number_of : (line : List ℕ) → (line_of line).number ≡ cond (no_number line) 0 (decimal line)
unfolding line_of
number_of line = picked (no_number line) (decimal line)

-- So where 0 does not meet what is asked of a number, the number on a line meets it exactly if the line is one to five
-- figures and theirs does.
pub by_figures :
    (input : List ℕ) (M : ℕ → Type 0) → (¬ M 0) → let line = first_line input in
    M (line_answer input).number ↔ (IsNumber line × M (decimal line))
unfolding line_answer
by_figures input M nought = let line = first_line input in rw (number_of line) (go (no_number line) (number_caught line))
  where
    go :
        (b : Bool) → Catches b (IsNumber (first_line input)) → let line = first_line input in
        M (cond b 0 (decimal line)) ↔ (IsNumber line × M (decimal line))
    go true c = (λ m. absurd (nought m), λ m. absurd (c.catches refl m.0))
    go false c = (λ m. (c.passes refl, m), λ m. m.1)

pub number_on_line_one : (input : List ℕ) (r s : LineAnswer) → r ≡ line_answer input → s ≡ line_answer input → r ≡ s
number_on_line_one input = one_result (line_answer input)

-- So the contract of `number_on_line`, which tells it as a number or none, leaves one result.
pub told_one : (input : List ℕ) (r s : Option ℕ) → told r ≡ line_answer input → told s ≡ line_answer input → r ≡ s
told_one input r s e f = alike r s (number_on_line_one input (told r) (told s) e f)
  where
    alike : (r s : Option ℕ) → told r ≡ told s → r ≡ s
    alike (Some n) (Some m) e = ap (λ (x : LineAnswer). Some x.number) e
    alike (Some n) None e = absurd (omega (arith, ap (λ (x : LineAnswer). x.refusal) e))
    alike None (Some m) e = absurd (omega (arith, ap (λ (x : LineAnswer). x.refusal) e))
    alike None None e = refl

-- Where none counts as 0, the result is the number that the definition tells.
pub number_or_nought : (input : List ℕ) (r : Option ℕ) → told r ≡ line_answer input → unwrap_or r 0 ≡ (line_answer input).number
number_or_nought input (Some n) e = ap (λ (x : LineAnswer). x.number) e
number_or_nought input None e = ap (λ (x : LineAnswer). x.number) e

-- `after_line_is` is a step: its contract allows one place.
pub after_line_one :
    (input : List ℕ) (r s : ℕ) → (r ≤ length input) × (drop r input ≡ after_line input) →
    (s ≤ length input) × (drop s input ≡ after_line input) → r ≡ s
after_line_one input r s p q =
    let same : length (drop r input) ≡ length (drop s input) = ap length (p.1 ∙ sym q.1) in
    omega (arith, rw (length-drop r input, length-drop s input) at same)
