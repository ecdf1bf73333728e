-- The words of this crate, fixed by plain numbers: a promise said in them cannot move with them. Two sheets that are written are
-- accepted, and bytes get each refusal.
use Rattle.std.specs.Prelude.{◌≡◌, List, [], ◌∷◌, ℕ}
use Rattle.sheet.specs.Sheet.{sheet}
use Rattle.accepted.specs.Check.{loaded_refusal}

-- Wing 1's sheet of 5775, and the guest wing's of 5775 to 5777.
abbrev pub one : List ℕ
one = sheet 1 5775 1

abbrev pub guest : List ℕ
guest = sheet 2 5775 3

-- A header of so many years, from 5775 on, with no rows, and its index entry of a year of so many days less 256.
abbrev pub bare : ℕ → ℕ → ℕ → List ℕ
bare years index days = years ∷ 0 ∷ 143 ∷ 22 ∷ 0 ∷ 0 ∷ 0 ∷ 0 ∷ index ∷ 0 ∷ 0 ∷ 0 ∷ 24 ∷ 0 ∷ 0 ∷ 0 ∷ 24 ∷ 0 ∷ 0 ∷ 0 ∷ 0 ∷ 0 ∷ days ∷ 1 ∷ []

pub record WordsFixed : Type 0 where
  pub taken : (loaded_refusal 1 one ≡ 0) × (loaded_refusal 2 guest ≡ 0)
  pub no_wing : (loaded_refusal 0 one ≡ 15) × (loaded_refusal 3 guest ≡ 15)
  -- Fifteen bytes, and sixteen; no year, and 101; an index elsewhere; another year's length.
  pub refused :
      (loaded_refusal 1 (0 ∷ 0 ∷ 0 ∷ 0 ∷ 0 ∷ 0 ∷ 0 ∷ 0 ∷ 0 ∷ 0 ∷ 0 ∷ 0 ∷ 0 ∷ 0 ∷ 0 ∷ []) ≡ 16)
      × (loaded_refusal 1 (0 ∷ 0 ∷ 0 ∷ 0 ∷ 0 ∷ 0 ∷ 0 ∷ 0 ∷ 0 ∷ 0 ∷ 0 ∷ 0 ∷ 0 ∷ 0 ∷ 0 ∷ 0 ∷ []) ≡ 17)
      × (loaded_refusal 2 (bare 0 16 98) ≡ 17) × (loaded_refusal 2 (bare 101 16 98) ≡ 17)
      × (loaded_refusal 1 (bare 1 17 98) ≡ 18) × (loaded_refusal 2 (bare 1 17 98) ≡ 18)
      × (loaded_refusal 1 (bare 1 16 99) ≡ 19) × (loaded_refusal 2 (bare 1 16 99) ≡ 19)
