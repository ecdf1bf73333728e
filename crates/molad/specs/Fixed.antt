-- The words of this crate, fixed by plain numbers: a promise said in them cannot move with them. Each end of a range is in
-- and its neighbour out, the leap years are the seven of the nineteen, and molads have their day, hour and part.
use Rattle.std.specs.Prelude.{◌≡◌, Bool, true, false, List, [], ◌∷◌, ◌↔◌, ℕ, ◌+◌, ◌≤◌}
use Rattle.molad.specs.Years.{InYears, InNewYears, leap}
use Rattle.molad.specs.Molad.{IsMonth}
use Rattle.molad.specs.Answers.{molad_answer}

-- Which of the years 1 to 19 are leap.
abbrev pub cycle : List Bool
cycle =
    leap 1 ∷ leap 2 ∷ leap 3 ∷ leap 4 ∷ leap 5 ∷ leap 6 ∷ leap 7 ∷ leap 8 ∷ leap 9 ∷ leap 10
    ∷ leap 11 ∷ leap 12 ∷ leap 13 ∷ leap 14 ∷ leap 15 ∷ leap 16 ∷ leap 17 ∷ leap 18 ∷ leap 19 ∷ []

abbrev pub MoladRefused : ℕ → ℕ → ℕ → Type 0
MoladRefused h code n = molad_answer h code ≡ record { refusal = n; day = 0; hour = 0; part = 0 }

pub record WordsFixed : Type 0 where
  pub years : (h : ℕ) → InYears h ↔ ((1 ≤ h) × (h ≤ 9999))
  pub new_years : (h : ℕ) → InNewYears h ↔ ((1 ≤ h) × (h ≤ 10000))
  pub first_cycle :
      cycle
      ≡ false ∷ false ∷ true ∷ false ∷ false ∷ true ∷ false ∷ true ∷ false ∷ false
      ∷ true ∷ false ∷ false ∷ true ∷ false ∷ false ∷ true ∷ false ∷ true ∷ []
  pub every_cycle : (h : ℕ) → leap (h + 19) ≡ leap h
  pub codes :
      (code : ℕ) → (IsMonth true code ↔ ((1 ≤ code) × (code ≤ 13))) × (IsMonth false code ↔ (((1 ≤ code) × (code ≤ 13)) × (¬ (code ≡ 6))))
  -- The first molad and the last; Adar I and Adar II of year 3.
  pub molads :
      (molad_answer 1 1 ≡ record { refusal = 0; day = 347998; hour = 5; part = 204 })
      × (molad_answer 9999 13 ≡ record { refusal = 0; day = 4000046; hour = 19; part = 34 })
      × (molad_answer 3 6 ≡ record { refusal = 0; day = 348854; hour = 14; part = 521 })
      × (molad_answer 3 7 ≡ record { refusal = 0; day = 348884; hour = 3; part = 234 })
  pub no_year : MoladRefused 0 1 1 × MoladRefused 10000 1 1
  pub no_month_is : MoladRefused 1 0 2 × MoladRefused 1 14 2 × MoladRefused 1 6 2 × MoladRefused 3 0 2 × MoladRefused 3 14 2
