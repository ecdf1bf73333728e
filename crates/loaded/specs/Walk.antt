-- A walk through a sheet, by document 02: one row after another until none is left, then "no more" for ever.
use Rattle.std.specs.Prelude.{Bool, ◌&&◌, cond, List, ℕ, ◌+◌, ◌*◌, ltb, length}
use Rattle.layout.specs.Layout.{rows_offset}
use Rattle.layout.specs.Reading.{number_at}
use Rattle.accepted.specs.Check.{years_told, count_told, of_loaded}
use Rattle.loaded.specs.declared.Row.{Row}
use Rattle.loaded.specs.declared.Stepped.{Stepped}
use Rattle.loaded.specs.declared.Begun.{Begun}

-- Where row k stands, counted from 0.
abbrev pub row_place : List ℕ → ℕ → ℕ
row_place bytes k = rows_offset (years_told bytes) + 6 * k

-- The header counts row k, and its six bytes are there.
unfoldable pub has_row : List ℕ → ℕ → Bool
has_row bytes k = ltb k (count_told bytes) && ltb (row_place bytes k + 5) (length bytes)

abbrev pub no_more : Row
no_more = record { more = 0; first = 0; length = 0; wing = 0 }

abbrev pub row_read : List ℕ → ℕ → Row
row_read bytes at = record { more = 1; first = number_at bytes at 4; length = number_at bytes (at + 4) 1; wing = number_at bytes (at + 5) 1 }

-- What a walker at row k hands out, and the row at which it then is.
unfoldable pub row_given : List ℕ → ℕ → Row
row_given bytes k = cond (has_row bytes k) (row_read bytes (row_place bytes k)) no_more

unfoldable pub row_after : List ℕ → ℕ → ℕ
row_after bytes k = cond (has_row bytes k) (k + 1) k

abbrev pub step_at : List ℕ → ℕ → Stepped
step_at bytes k = record { row = row_given bytes k; next = row_after bytes k }

-- A walk begins at row 0. Begun on bytes that are not accepted it has ended already: it is at a row that no memory has room
-- for.
abbrev pub ended_row : ℕ
ended_row = 18446744073709551615

unfoldable pub begun_at : ℕ → List ℕ → Begun
begun_at wing bytes = of_loaded wing bytes (λ n. record { refusal = n; row = ended_row }) (record { refusal = 0; row = 0 })
