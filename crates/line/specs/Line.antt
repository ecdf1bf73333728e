-- A line of input as bytes.
use Rattle.std.specs.Prelude.{Bool, not, cond, List, [], ◌∷◌, ℕ, ◌+◌, ◌*◌, ◌-◌, ◌^◌, ◌≤◌, ◌<◌, eqb, length, get_or}
use Rattle.laws.specs.Runs.{outside}

-- The first line: the bytes up to the first line feed, or all if there is none.
unfoldable pub first_line : List ℕ → List ℕ
first_line [] = []
first_line (byte ∷ rest) = cond (eqb byte 10) [] (byte ∷ first_line rest)

-- The lines after the first: what stands behind the first line feed, or nothing if there is none.
unfoldable pub after_line : List ℕ → List ℕ
after_line [] = []
after_line (byte ∷ rest) = cond (eqb byte 10) rest (after_line rest)

-- The figures 0 to 9 are the bytes 48 to 57.
abbrev pub figure : ℕ → Bool
figure byte = not (outside 48 57 byte)

-- Every byte of the line is one.
abbrev pub AllFigures : List ℕ → Type 0
AllFigures line = (i : ℕ) → i < length line → (48 ≤ get_or line i 0) × (get_or line i 0 ≤ 57)

-- One to five figures.
abbrev pub IsNumber : List ℕ → Type 0
IsNumber line = ((1 ≤ length line) × (length line ≤ 5)) × AllFigures line

-- The number that figures stand for: each counts ten times as much as it would one place further right.
unfoldable pub decimal : List ℕ → ℕ
decimal [] = 0
decimal (byte ∷ rest) = (byte - 48) * 10 ^ length rest + decimal rest
