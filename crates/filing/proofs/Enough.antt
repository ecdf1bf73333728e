-- Nineteen bytes of the input tell its answer, and what becomes of the lent bytes: five figures and what follows them on the
-- first line and on the third, and up to six bytes and their line feed on the second. A second line that is longer holds no
-- year, and is refused whatever comes after it; then the nineteen may tell 11 where the third line would have it 1.
use mathlib.Core.Path.{◌≡◌, refl, sym, ◌∙◌}
use mathlib.Core.Bool.{false}
use mathlib.Core.List.{List}
use mathlib.Core.Logic.{by_cases}
use Prim.Native.Nat.{ℕ, suc, ◌-◌, ◌≤◌}
use native.Mathlib.Decide.{dec_le}
use native.Mathlib.Omega.{arith}
use borrow.Author.Tests.{ne_eqb}
use lib.Dec.{eqb}
use lib.ListN.{length, take}
use Rattle.line.specs.Line.{first_line, after_line}
use Rattle.line.specs.Answers.{line_answer}
use Rattle.line.proofs.Enough.{long_line, after_part, line_before}
use Rattle.line.proofs.Enough.{enough as line-enough}
use Rattle.sheet.specs.Answers.{wing_sheet, wing_sheet_buffer}
use Rattle.sheet.proofs.Answers.{sheet_promised, sheet_lent}
use Rattle.filing.specs.Answers.{wing_on, first_year_on, years_on, sheet_on_lines, sheet_on_lines_buffer}

-- So for whatever is answered by the three numbers, does not hang on the others where the wing is 0 and, if the second line
-- is longer, does not hang on the third where the first year is 0.
told :
    {A : Type 0} (answer : ℕ → ℕ → ℕ → A) → ((h years k n : ℕ) → answer 0 h years ≡ answer 0 k n) → (input : List ℕ) →
    ((length (first_line (after_line input)) ≤ 6 → ⊥) → (wing years n : ℕ) → answer wing 0 years ≡ answer wing 0 n) →
    let part = take 19 input in
    answer (wing_on part) (first_year_on part) (years_on part) ≡ answer (wing_on input) (first_year_on input) (years_on input)
told answer no_wing input no_year =
    let later = after_line input in
    line_before 13 input (λ wing lines. answer wing (line_answer lines).number (line_answer (after_line lines)).number)
    (λ k l. no_wing _ _ _ _)
    (λ m wing l.
    by_cases (dec_le (length (first_line later)) 6)
    (λ s. rw (line-enough m later (omega arith), after_part m later, line-enough (m - suc (length (first_line later))) (after_line later) (omega arith)))
    (λ s. rw (line-enough m later (omega arith), long_line later (omega arith)) (no_year s wing _ _)))

module _ (buffer : List ℕ) where
  -- From year 0 on there is no sheet.
  refused : (wing years : ℕ) → 1 ≤ (wing_sheet wing 0 years buffer).refusal
  refused wing years =
      by_cases (dec_le 1 (wing_sheet wing 0 years buffer).refusal)
      (λ l. l)
      (λ l. absurd (omega (arith, ((sheet_promised wing 0 years buffer).done.0 (omega arith)).1.1.0.0.0)))

  not_done : (wing years : ℕ) → eqb (wing_sheet wing 0 years buffer).refusal 0 ≡ false
  not_done wing years = ne_eqb (wing_sheet wing 0 years buffer).refusal 0 (λ e. omega (arith, refused wing years))

  kept : (wing years : ℕ) → wing_sheet_buffer wing 0 years buffer ≡ buffer
  kept wing years = (sheet_lent wing 0 years buffer).untouched (refused wing years)

  -- The answer; and, whatever the second line is, whether it is done, and the bytes.
  pub enough :
      (input : List ℕ) →
      (length (first_line (after_line input)) ≤ 6 → sheet_on_lines (take 19 input) buffer ≡ sheet_on_lines input buffer)
      × ((eqb (sheet_on_lines (take 19 input) buffer).refusal 0 ≡ eqb (sheet_on_lines input buffer).refusal 0)
      × (sheet_on_lines_buffer (take 19 input) buffer ≡ sheet_on_lines_buffer input buffer))
  unfolding sheet_on_lines sheet_on_lines_buffer
  enough input = (
    λ s. told (λ wing h years. wing_sheet wing h years buffer) (λ h years k n. refl) input (λ long. absurd (long s)),
    (
      told (λ wing h years. eqb (wing_sheet wing h years buffer).refusal 0) (λ h years k n. refl) input
          (λ _ wing years n. not_done wing years ∙ sym (not_done wing n)),
      told (λ wing h years. wing_sheet_buffer wing h years buffer) (λ h years k n. refl) input
          (λ _ wing years n. kept wing years ∙ sym (kept wing n)),
    ),
  )
