-- What three lines ask for, fixed by plain numbers: the lines as bytes, and the bytes of the sheet that they want. 48 to 57 are the
-- figures, and 10 is the line feed.
use Rattle.std.specs.Prelude.{◌≡◌, List, [], ◌∷◌, ℕ}
use Rattle.filing.specs.Answers.{sheet_on_lines, sheet_on_lines_buffer}

-- With no bytes lent.
abbrev pub Refused : List ℕ → ℕ → ℕ → Type 0
Refused input n count = (sheet_on_lines input [] ≡ record { refusal = n; count = count }) × (sheet_on_lines_buffer input [] ≡ [])

pub record WordsFixed : Type 0 where
  -- Wing 1, 5775, 1 year; wing 2, 5775, 3 years; the same with figures 0 before them and with no line feed at the end.
  pub wing_1 : Refused (49 ∷ 10 ∷ 53 ∷ 55 ∷ 55 ∷ 53 ∷ 10 ∷ 49 ∷ 10 ∷ []) 10 342
  pub guest_wing : Refused (50 ∷ 10 ∷ 53 ∷ 55 ∷ 55 ∷ 53 ∷ 10 ∷ 51 ∷ 10 ∷ []) 10 1042
  pub noughts : Refused (48 ∷ 50 ∷ 10 ∷ 48 ∷ 53 ∷ 55 ∷ 55 ∷ 53 ∷ 10 ∷ 48 ∷ 51 ∷ []) 10 1042
  -- Wing 3; 101 years, and none; the year 10,000, and none; nothing.
  pub no_wing : Refused (51 ∷ 10 ∷ 53 ∷ 55 ∷ 55 ∷ 53 ∷ 10 ∷ 49 ∷ 10 ∷ []) 15 0
  pub no_years : Refused (49 ∷ 10 ∷ 53 ∷ 55 ∷ 55 ∷ 53 ∷ 10 ∷ 49 ∷ 48 ∷ 49 ∷ 10 ∷ []) 11 0 × Refused (49 ∷ 10 ∷ 53 ∷ 55 ∷ 55 ∷ 53 ∷ 10 ∷ []) 11 0
  pub no_year : Refused (49 ∷ 10 ∷ 49 ∷ 48 ∷ 48 ∷ 48 ∷ 48 ∷ 10 ∷ 49 ∷ 10 ∷ []) 1 0 × Refused (49 ∷ 10 ∷ 10 ∷ 49 ∷ 10 ∷ []) 1 0
  pub nothing : Refused [] 15 0
