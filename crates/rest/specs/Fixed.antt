-- The words of this crate, fixed by plain numbers: a promise said in them cannot move with them. 1 and 2 are wings, 0 and 3 are
-- none; each wing's rest days of 5762 stand in lent numbers; each end of a range is in and its neighbour out.
use Rattle.std.specs.Prelude.{◌≡◌, List, [], ◌∷◌, ◌↔◌, ℕ, ◌≤◌}
use Rattle.rest.specs.Wings.{IsWing}
use Rattle.rest.specs.Answers.{wing_rest_days, wing_rest_days_buffer}

-- Lent: nine numbers, and fourteen.
abbrev pub nine : List ℕ
nine = 7 ∷ 7 ∷ 7 ∷ 7 ∷ 7 ∷ 7 ∷ 7 ∷ 7 ∷ 7 ∷ []

abbrev pub fourteen : List ℕ
fourteen = 7 ∷ 7 ∷ 7 ∷ 7 ∷ 7 ∷ nine

-- The answer, and the lent numbers afterwards.
abbrev pub Writes : ℕ → ℕ → List ℕ → ℕ → List ℕ → Type 0
Writes wing h lent count list = (wing_rest_days wing h lent ≡ record { refusal = 0; count = count }) × (wing_rest_days_buffer wing h lent ≡ list)

abbrev pub Refused : ℕ → ℕ → List ℕ → ℕ → ℕ → Type 0
Refused wing h lent n count = (wing_rest_days wing h lent ≡ record { refusal = n; count = count }) × (wing_rest_days_buffer wing h lent ≡ lent)

pub record WordsFixed : Type 0 where
  pub wings : (wing : ℕ) → IsWing wing ↔ ((1 ≤ wing) × (wing ≤ 2))
  pub wing_1 :
      Writes 1 5762 nine 8
      (2452171 ∷ 2452172 ∷ 2452180 ∷ 2452185 ∷ 2452192 ∷ 2452362 ∷ 2452368 ∷ 2452412 ∷ 7 ∷ [])
  pub guest_wing :
      Writes 2 5762 fourteen 13
      (2452171 ∷ 2452172 ∷ 2452180 ∷ 2452185 ∷ 2452186 ∷ 2452192 ∷ 2452193
      ∷ 2452362 ∷ 2452363 ∷ 2452368 ∷ 2452369 ∷ 2452412 ∷ 2452413 ∷ 7 ∷ [])
  pub ends : (wing_rest_days 2 1 fourteen ≡ record { refusal = 0; count = 13 }) × (wing_rest_days 2 9999 fourteen ≡ record { refusal = 0; count = 13 })
  pub no_wing : Refused 0 5762 fourteen 15 0 × Refused 3 5762 fourteen 15 0
  pub no_year : Refused 1 0 fourteen 1 0 × Refused 2 0 fourteen 1 0 × Refused 1 10000 fourteen 1 0 × Refused 2 10000 fourteen 1 0
  pub short : Refused 1 5762 [] 10 8 × Refused 2 5762 nine 10 13
