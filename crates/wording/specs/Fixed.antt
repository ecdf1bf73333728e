-- What two lines ask for, the date of a day shown, and what is printed, fixed by plain numbers and words. 48 to 57 are the
-- figures, and 10 is the line feed; −3760 is `negsuc 3759`.
use Rattle.std.specs.Prelude.{◌≡◌, List, [], ◌∷◌, ℕ, ℤ, pos, negsuc, codes}
use Rattle.wording.specs.Answers.{notice_on_lines, shown_date}
use Rattle.wording.specs.Printed.{notice}

abbrev pub Refused : List ℕ → ℕ → Type 0
Refused input n = notice_on_lines input ≡ record { refusal = n; day = 0; weekday = 0; hour = 0; minute = 0; part = 0 }

abbrev pub ShownOn : ℕ → ℕ → ℤ → ℕ → ℕ → Type 0
ShownOn j n y m d = shown_date j ≡ record { refusal = n; year = y; month = m; day = d }

pub record WordsFixed : Type 0 where
  -- 5762 and 1.
  pub wardens : notice_on_lines (53 ∷ 55 ∷ 54 ∷ 50 ∷ 10 ∷ 49 ∷ 10 ∷ []) ≡ record { refusal = 0; day = 2452170; weekday = 2; hour = 22; minute = 5; part = 16 }
  -- Nothing; 10000 and 1; 1 and 5762; 5762 and 6; 5762 alone.
  pub refused :
      Refused [] 1 × Refused (49 ∷ 48 ∷ 48 ∷ 48 ∷ 48 ∷ 10 ∷ 49 ∷ 10 ∷ []) 1 × Refused (49 ∷ 10 ∷ 53 ∷ 55 ∷ 54 ∷ 50 ∷ 10 ∷ []) 2
      × Refused (53 ∷ 55 ∷ 54 ∷ 50 ∷ 10 ∷ 54 ∷ 10 ∷ []) 2 × Refused (53 ∷ 55 ∷ 54 ∷ 50 ∷ 10 ∷ []) 2
  -- The day before the first, the first and the last, and the days beside these.
  pub dates : ShownOn 347997 0 (negsuc 3759) 9 6 × ShownOn 347998 0 (negsuc 3759) 9 7 × ShownOn 4000075 0 (pos 6239) 9 25
  pub no_dates : ShownOn 347996 4 (pos 0) 0 0 × ShownOn 4000076 4 (pos 0) 0 0
  -- 5762 and 1 again; and the day before the first, at an hour, minute and part of one figure.
  pub printed :
      (notice (record { refusal = 0; day = 2452170; weekday = 2; hour = 22; minute = 5; part = 16 }) (record { refusal = 0; year = pos 2001; month = 9; day = 17 })
      ≡ codes "Monday 2001-09-17 22:05 and 16 parts")
      × (notice (record { refusal = 0; day = 347997; weekday = 7; hour = 9; minute = 0; part = 1 }) (record { refusal = 0; year = negsuc 3759; month = 9; day = 6 })
      ≡ codes "Saturday -3760-09-06 09:00 and 1 part")
