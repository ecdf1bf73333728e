-- What a sheet that holds the calendar's years from year h on tells of year i, and of its row k.
use mathlib.Core.Path.{◌≡◌}
use mathlib.Core.Bool.{Bool}
use mathlib.Core.List.{List}
use Prim.Native.Nat.{ℕ, ◌+◌, ◌*◌, ◌<◌}
use lib.ListN.{get_or}
use Rattle.layout.specs.Reading.{number_at}
use Rattle.newyear.specs.NewYear.{year_length}
use Rattle.rest.specs.Wings.{table_of}
use Rattle.stretches.specs.Stretches.{stretch_rows}
use Rattle.sheet.specs.Sheet.{rows_in}
use Rattle.sheet.specs.Promises.{offset_told, rows_told, length_told}
use Rattle.content.specs.Content.{row_agrees}

abbrev pub first_at : List ℕ → ℕ → ℕ → ℕ
first_at bytes i k = number_at bytes (offset_told bytes i + 6 * k) 4

abbrev pub days_at : List ℕ → ℕ → ℕ → ℕ
days_at bytes i k = number_at bytes (offset_told bytes i + 6 * k + 4) 1

module _ (wing h : ℕ) where
  abbrev pub list : ℕ → List ℕ
  list i = stretch_rows (table_of wing) (h + i)

  module _ (bytes : List ℕ) where
    abbrev pub CalendarsRow : ℕ → ℕ → Type 0
    CalendarsRow i k =
        (first_at bytes i k ≡ get_or (list i) (2 * k) 0)
        × ((days_at bytes i k ≡ get_or (list i) (2 * k + 1) 0) × (number_at bytes (offset_told bytes i + 6 * k + 5) 1 ≡ wing))

    pub record CalendarsYear (i : ℕ) : Type 0 where
      pub long : length_told bytes i ≡ year_length (h + i)
      pub many : rows_told bytes i ≡ rows_in wing (h + i)
      pub each : (k : ℕ) → k < rows_in wing (h + i) → CalendarsRow i k

    -- Is it told so?
    abbrev pub row_same : ℕ → ℕ → Bool
    row_same i k = row_agrees wing bytes (offset_told bytes i + 6 * k) (get_or (list i) (2 * k) 0) (get_or (list i) (2 * k + 1) 0)
