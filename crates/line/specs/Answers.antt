-- What `number_on_line` answers.
use Rattle.std.specs.Prelude.{Bool, not, cond, ◌||◌, List, ℕ, length, Option, Some, None}
use Rattle.laws.specs.Runs.{outside, each_of}
use Rattle.line.specs.Line.{first_line, figure, decimal}

-- The number that a line holds, or its refusal.
pub record LineAnswer : Type 0 where
  pub refusal : ℕ
  pub number : ℕ

-- The line holds anything but one to five figures.
abbrev pub no_number : List ℕ → Bool
no_number line = outside 1 5 (length line) || not (each_of line figure)

-- Refusal 1: the line holds anything but one to five figures. An empty line holds no figure.
unfoldable pub line_of : List ℕ → LineAnswer
line_of line = cond (no_number line) (record { refusal = 1; number = 0 }) (record { refusal = 0; number = decimal line })

-- The number on the first line. Empty input has an empty one.
unfoldable pub line_answer : List ℕ → LineAnswer
line_answer input = line_of (first_line input)

-- What a function that may find no number tells.
abbrev pub told : Option ℕ → LineAnswer
told (Some number) = record { refusal = 0; number = number }
told None = record { refusal = 1; number = 0 }
