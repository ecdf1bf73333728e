-- What `sheet_write` answers, and what it makes of the lent bytes.
use Rattle.std.specs.Prelude.{Bool, ◌||◌, cond, List, ℕ, ◌+◌, ◌-◌, ltb, length}
use Rattle.laws.specs.Runs.{outside}
use Rattle.laws.specs.Buffer.{overwrite}
use Rattle.molad.specs.Years.{out_of_years}
use Rattle.lists.specs.Lists.{no_list}
use Rattle.lists.specs.declared.ListAnswer.{ListAnswer}
use Rattle.rest.specs.Wings.{of_wing}
use Rattle.sheet.specs.Sheet.{most_years, sheet_size, sheet}

-- The first or the last of so many years lies outside 1..9999.
abbrev pub ends_outside : ℕ → ℕ → Bool
ends_outside h years = out_of_years h || out_of_years (h + years - 1)

-- Refusal 11: the years are not 1 to 100. 1: the first or the last year is outside. 10: the lent bytes are too few. It tells
-- the bytes wanted and, where it is done, the bytes written.
unfoldable pub sheet_answer : ℕ → ℕ → ℕ → List ℕ → ListAnswer
sheet_answer wing h years buffer =
    cond (outside 1 most_years years) (no_list 11)
    (cond (ends_outside h years) (no_list 1)
    (cond (ltb (length buffer) (sheet_size wing h years)) (record { refusal = 10; count = sheet_size wing h years })
    (record { refusal = 0; count = sheet_size wing h years })))

-- A refusal leaves the bytes as they were.
unfoldable pub sheet_buffer : ℕ → ℕ → ℕ → List ℕ → List ℕ
sheet_buffer wing h years buffer =
    cond (outside 1 most_years years) buffer
    (cond (ends_outside h years) buffer
    (cond (ltb (length buffer) (sheet_size wing h years)) buffer (overwrite buffer (sheet wing h years))))

-- Refusal 15, before all others: the wing is neither 1 nor 2.
abbrev pub wing_sheet : ℕ → ℕ → ℕ → List ℕ → ListAnswer
wing_sheet wing h years buffer = of_wing wing (no_list 15) (λ _. sheet_answer wing h years buffer)

abbrev pub wing_sheet_buffer : ℕ → ℕ → ℕ → List ℕ → List ℕ
wing_sheet_buffer wing h years buffer = of_wing wing buffer (λ _. sheet_buffer wing h years buffer)
