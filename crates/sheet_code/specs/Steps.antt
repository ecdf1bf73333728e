-- What the step that writes answers for years that a sheet holds, and what it makes of the lent bytes; nothing that a reader
-- must believe.
use Rattle.std.specs.Prelude.{cond, List, ℕ, ltb, length}
use Rattle.laws.specs.Buffer.{overwrite}
use Rattle.lists.specs.declared.ListAnswer.{ListAnswer}
use Rattle.sheet.specs.Sheet.{sheet_size, sheet}

abbrev pub written_answer : ℕ → ℕ → ℕ → List ℕ → ListAnswer
written_answer wing h years buffer =
    cond (ltb (length buffer) (sheet_size wing h years)) (record { refusal = 10; count = sheet_size wing h years })
    (record { refusal = 0; count = sheet_size wing h years })

abbrev pub written_buffer : ℕ → ℕ → ℕ → List ℕ → List ℕ
written_buffer wing h years buffer = cond (ltb (length buffer) (sheet_size wing h years)) buffer (overwrite buffer (sheet wing h years))
