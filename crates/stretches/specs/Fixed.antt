-- The words of this crate, fixed by plain numbers: a promise said in them cannot move with them. Both wings' lists of 5775; each
-- end of the years in and its neighbour out.
use Rattle.std.specs.Prelude.{◌≡◌, List, [], ◌∷◌, ℕ, ◌≤◌, length, take}
use Rattle.stretches.specs.Answers.{wing_stretches, wing_stretches_buffer}

-- With the header's room, 120 numbers: how many stretches the year has, and what the list begins with.
abbrev pub Lists : ℕ → ℕ → ℕ → List ℕ → Type 0
Lists wing h count begins =
    (buffer : List ℕ) → 120 ≤ length buffer →
    (wing_stretches wing h buffer ≡ record { refusal = 0; count = count }) × (take (length begins) (wing_stretches_buffer wing h buffer) ≡ begins)

abbrev pub NoList : ℕ → ℕ → ℕ → ℕ → Type 0
NoList wing h n count = (wing_stretches wing h [] ≡ record { refusal = n; count = count }) × (wing_stretches_buffer wing h [] ≡ [])

pub record WordsFixed : Type 0 where
  -- Tishri 5775.
  pub wing_1 : Lists 1 5775 53 (2456926 ∷ 3 ∷ 2456935 ∷ 1 ∷ 2456940 ∷ 1 ∷ 2456942 ∷ 1 ∷ 2456947 ∷ 1 ∷ 2456949 ∷ 1 ∷ [])
  pub guest_wing : Lists 2 5775 51 (2456926 ∷ 3 ∷ 2456935 ∷ 1 ∷ 2456940 ∷ 3 ∷ 2456947 ∷ 3 ∷ [])
  pub ends : Lists 1 1 56 [] × Lists 2 1 55 [] × Lists 1 9999 57 [] × Lists 2 9999 57 []
  pub no_year : NoList 1 0 1 0 × NoList 2 0 1 0 × NoList 1 10000 1 0 × NoList 2 10000 1 0
  pub short : NoList 1 5775 10 106 × NoList 2 5775 10 102
  pub no_wing : NoList 0 5775 15 0 × NoList 3 5775 15 0
