-- The words of this crate, fixed by plain numbers: a promise said in them cannot move with them.
use Rattle.std.specs.Prelude.{◌≡◌, List, [], ◌∷◌, ℕ, ◌+◌}
use Rattle.lists.specs.Lists.{list_answer, list_buffer, days_of, DaysRise}

-- Two numbers to write, which count as one; lent: one number, two and three.
abbrev pub list : List ℕ
list = 5 ∷ 9 ∷ []

abbrev pub one : List ℕ
one = 7 ∷ []

abbrev pub two : List ℕ
two = 7 ∷ one

abbrev pub three : List ℕ
three = 7 ∷ two

abbrev pub Writes : ℕ → List ℕ → List ℕ → Type 0
Writes h lent after = (list_answer h lent list 1 ≡ record { refusal = 0; count = 1 }) × (list_buffer h lent list ≡ after)

abbrev pub Refused : ℕ → List ℕ → ℕ → ℕ → Type 0
Refused h lent n count = (list_answer h lent list 1 ≡ record { refusal = n; count = count }) × (list_buffer h lent list ≡ lent)

pub record WordsFixed : Type 0 where
  pub written : Writes 1 two (5 ∷ 9 ∷ []) × Writes 9999 three (5 ∷ 9 ∷ 7 ∷ [])
  pub no_year : Refused 0 three 1 0 × Refused 10000 three 1 0 × Refused 0 one 1 0
  pub short : Refused 1 one 10 2 × Refused 9999 [] 10 2
  pub days : days_of (λ r. r + 100) (3 ∷ 1 ∷ []) ≡ 103 ∷ 101 ∷ []
  pub rising : DaysRise [] × DaysRise (5 ∷ []) × DaysRise (5 ∷ 6 ∷ 9 ∷ [])
  pub not_rising : (¬ DaysRise (5 ∷ 5 ∷ [])) × (¬ DaysRise (6 ∷ 5 ∷ [])) × (¬ DaysRise (5 ∷ 9 ∷ 8 ∷ []))
