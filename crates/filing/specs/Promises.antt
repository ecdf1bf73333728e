-- What `sheet_on_lines` promises: the sheet of the numbers that stand on the input's three lines.
use Rattle.std.specs.Prelude.{◌≡◌, cond, List, [], ◌∷◌, ℕ, ◌+◌, ◌-◌, ◌≤◌, eqb, length}
use Rattle.laws.specs.Promise.{Asked, ◌else◌, Promised}
use Rattle.lists.specs.declared.ListAnswer.{ListAnswer}
use Rattle.line.specs.Line.{first_line, after_line, IsNumber, decimal}
use Rattle.molad.specs.Years.{InYears}
use Rattle.rest.specs.Wings.{IsWing}
use Rattle.sheet.specs.Sheet.{most_years, sheet_size, sheet}

abbrev pub second_line : List ℕ → List ℕ
second_line input = first_line (after_line input)

abbrev pub third_line : List ℕ → List ℕ
third_line input = first_line (after_line (after_line input))

-- Its bytes, and how many they are: the wing is on the first line, the first year on the second, how many years on the third.
abbrev pub sheet_on : List ℕ → List ℕ
sheet_on input = sheet (decimal (first_line input)) (decimal (second_line input)) (decimal (third_line input))

abbrev pub size_on : List ℕ → ℕ
size_on input = sheet_size (decimal (first_line input)) (decimal (second_line input)) (decimal (third_line input))

-- Done exactly if the first line holds a wing, the third 1 to 100 years, the second a year from which on they lie inside, and the
-- lent bytes are enough.
abbrev pub asked_of_lines : List ℕ → List ℕ → List Asked
asked_of_lines input buffer =
    let second = second_line input in
    let third = third_line input in
    (IsNumber (first_line input) × IsWing (decimal (first_line input))) else 15
    ∷ (IsNumber third × ((1 ≤ decimal third) × (decimal third ≤ most_years))) else 11
    ∷ (IsNumber second × (InYears (decimal second) × InYears (decimal second + decimal third - 1))) else 1
    ∷ (size_on input ≤ length buffer) else 10
    ∷ []

abbrev pub PromisedOnLines : List ℕ → List ℕ → ListAnswer → Type 0
PromisedOnLines input buffer =
    Promised (λ (r : ListAnswer). r.refusal) (asked_of_lines input buffer) (λ r. r.count ≡ size_on input) (λ n r. r.count ≡ cond (eqb n 10) (size_on input) 0)
