-- What the step that compares asks of its bytes; nothing that a reader must believe.
use Rattle.std.specs.Prelude.{List, ℕ, ◌+◌, ◌*◌, ◌≤◌, ◌<◌, length}
use Rattle.sheet.specs.Promises.{offset_told, rows_told}

-- The rows of so many years lie within the bytes, where the index says that they stand.
abbrev pub RowsWithin : List ℕ → ℕ → Type 0
RowsWithin bytes years = (i : ℕ) → i < years → offset_told bytes i + 6 * rows_told bytes i ≤ length bytes
