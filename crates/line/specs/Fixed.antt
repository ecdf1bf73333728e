-- The words of this crate, fixed by plain numbers: lines as bytes, and the number that each holds. 48 to 57 are the figures, and
-- 10 is the line feed.
use Rattle.std.specs.Prelude.{◌≡◌, List, [], ◌∷◌, ◌++◌, ℕ}
use Rattle.line.specs.Line.{first_line, after_line}
use Rattle.line.specs.Answers.{line_answer}

abbrev pub Reads : List ℕ → ℕ → Type 0
Reads input n = line_answer input ≡ record { refusal = 0; number = n }

abbrev pub Refused : List ℕ → Type 0
Refused input = line_answer input ≡ record { refusal = 1; number = 0 }

-- 5762, as it is typed.
abbrev pub typed : List ℕ
typed = 53 ∷ 55 ∷ 54 ∷ 50 ∷ []

pub record WordsFixed : Type 0 where
  -- 1; 5762; 05762; 99999.
  pub one_to_five : Reads (49 ∷ []) 1 × Reads typed 5762 × Reads (48 ∷ typed) 5762 × Reads (57 ∷ 57 ∷ 57 ∷ 57 ∷ 57 ∷ []) 99999
  -- Nothing, an empty line, and 005762.
  pub none_or_six : Refused [] × Refused (10 ∷ typed) × Refused (48 ∷ 48 ∷ typed)
  -- 0 and 9, and the bytes beside them; a blank; a sign.
  pub figures : Reads (48 ∷ []) 0 × Reads (57 ∷ []) 9
  pub no_figures : Refused (47 ∷ []) × Refused (58 ∷ []) × Refused (32 ∷ typed) × Refused (typed ++ 32 ∷ []) × Refused (43 ∷ typed) × Refused (45 ∷ typed)
  -- Only the first line is read; what stands behind its line feed is the lines after it.
  pub first_line_is : Reads (typed ++ 10 ∷ 49 ∷ []) 5762 × (first_line (typed ++ 10 ∷ 49 ∷ 10 ∷ []) ≡ 53 ∷ 55 ∷ 54 ∷ 50 ∷ [])
  pub after_line_is : (after_line (typed ++ 10 ∷ 49 ∷ 10 ∷ []) ≡ 49 ∷ 10 ∷ []) × (after_line typed ≡ [])
