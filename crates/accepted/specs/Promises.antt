-- What is asked of bytes that are loaded for a wing's sheet, and which bytes a writer could have written.
use Rattle.std.specs.Prelude.{◌≡◌, List, [], ◌∷◌, ℕ, ◌+◌, ◌*◌, ◌-◌, ◌≤◌, ◌<◌, length}
use Rattle.laws.specs.Promise.{Asked, ◌else◌, Promised}
use Rattle.layout.specs.Reading.{number_at}
use Rattle.molad.specs.Years.{InYears}
use Rattle.rest.specs.Wings.{IsWing}
use Rattle.sheet.specs.Sheet.{most_years, sheet}
use Rattle.sheet.specs.Promises.{offset_told, rows_told_before, SheetOf}

-- The year count, the first and the last year can come from a writer.
abbrev pub WritersYears : List ℕ → Type 0
WritersYears bytes =
    let years = number_at bytes 0 2 in
    let first = number_at bytes 2 2 in
    ((1 ≤ years) × (years ≤ most_years)) × (InYears first × InYears (first + years - 1))

-- Header, index and size fit each other.
pub record Placed (bytes : List ℕ) : Type 0 where
  pub index_offset_is : number_at bytes 8 4 ≡ 16
  pub rows_offset_is : number_at bytes 12 4 ≡ 16 + 8 * number_at bytes 0 2
  pub rows_counted : number_at bytes 4 4 ≡ rows_told_before bytes (number_at bytes 0 2)
  pub offsets : (i : ℕ) → i < number_at bytes 0 2 → offset_told bytes i ≡ 16 + 8 * number_at bytes 0 2 + 6 * rows_told_before bytes i
  pub size : length bytes ≡ 16 + 8 * number_at bytes 0 2 + 6 * number_at bytes 4 4

-- Rows, wing byte and year lengths are the calendar's for the wing: the bytes are a sheet of the wing for the years that they
-- tell.
abbrev pub OfCalendar : ℕ → List ℕ → Type 0
OfCalendar wing bytes = SheetOf wing (number_at bytes 2 2) (number_at bytes 0 2) bytes

-- What is asked of a wing's sheet, in document 02's order, before anything else.
abbrev pub asked_of_loaded : ℕ → List ℕ → List Asked → List Asked
asked_of_loaded wing bytes others =
    IsWing wing else 15 ∷ (16 ≤ length bytes) else 16 ∷ WritersYears bytes else 17 ∷ Placed bytes else 18 ∷ OfCalendar wing bytes else 19 ∷ others

-- A number alone.
abbrev pub PromisedRefusal : ℕ → List ℕ → ℕ → Type 0
PromisedRefusal wing bytes = Promised (λ n. n) (asked_of_loaded wing bytes []) (λ _. Unit {0}) (λ _ _. Unit {0})

-- A writer could have written the bytes for the wing: there are a first year and a count of years for which they are its
-- list.
pub record Writers (wing : ℕ) (bytes : List ℕ) : Type 0 where
  pub first : ℕ
  pub years : ℕ
  pub named : IsWing wing
  pub some : 1 ≤ years
  pub most : years ≤ most_years
  pub covered : InYears first × InYears (first + years - 1)
  pub written : bytes ≡ sheet wing first years
