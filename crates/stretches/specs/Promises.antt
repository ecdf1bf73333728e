-- What callers are given for a year: by a table, and for a wing.
use Rattle.std.specs.Prelude.{◌≡◌, cond, List, [], ◌∷◌, ℕ, ◌+◌, ◌-◌, ◌*◌, ◌≤◌, ◌<◌, eqb, length}
use Rattle.laws.specs.Promise.{Asked, ◌else◌, Promised}
use Rattle.laws.specs.Search.{Run}
use Rattle.molad.specs.Years.{InYears}
use Rattle.newyear.specs.NewYear.{new_year}
use Rattle.lists.specs.declared.ListAnswer.{ListAnswer}
use Rattle.rest.specs.Table.{rest_day}
use Rattle.rest.specs.Wings.{IsWing, table_of}
use Rattle.rest.specs.Steps.{rest_at}
use Rattle.stretches.specs.Stretches.{stretch_rows}
use Rattle.stretches.specs.Steps.{rows_at}

-- Two entries each: a stretch's first day and its length stand in the list.
pub data Listed (first days : ℕ) : List ℕ → Type 0 where
  here : {l : List ℕ} → Listed first days (first ∷ days ∷ l)
  there : {a b : ℕ} {l : List ℕ} → Listed first days l → Listed first days (a ∷ b ∷ l)

-- Rising: each first day comes after the one before it.
abbrev pub FirstDaysRise : ℕ → List ℕ → Type 0
FirstDaysRise from [] = Unit {0}
FirstDaysRise from (f ∷ []) = ⊥
FirstDaysRise from (f ∷ c ∷ l) = (from ≤ f) × FirstDaysRise (f + 1) l

-- Every stretch that begins in the year, no other, rising.
pub record StretchesOf (table : List ℕ) (h : ℕ) (list : List ℕ) : Type 0 where
  pub every : (f c : ℕ) → Run (rest_day table) f c → new_year h ≤ f → f < new_year (h + 1) → Listed f c list
  pub only : (f c : ℕ) → Listed f c list → Run (rest_day table) f c × ((new_year h ≤ f) × (f < new_year (h + 1)))
  pub rising : FirstDaysRise (new_year h) list

-- Of each stretch its first day counted from day j, and its length.
unfoldable pub counted_from : ℕ → List ℕ → List ℕ
counted_from j [] = []
counted_from j (f ∷ []) = []
counted_from j (f ∷ c ∷ l) = (f - j) ∷ c ∷ counted_from j l

-- The stretches of a year of this length with New Year on weekday w, which are its kind, by a table; first days are counted
-- from New Year.
unfoldable pub rows_of_kind : List ℕ → ℕ → ℕ → List ℕ
rows_of_kind table w len = rows_at (rest_at table w len) 0 len

-- The most stretches that a year of the wing has.
abbrev pub most_stretches : ℕ → ℕ
most_stretches wing = cond (eqb wing 1) 60 59

-- Entries enough for the stretches of any year, in either wing: the header's BD_STRETCHES_ROOM.
abbrev pub stretches_room : ℕ
stretches_room = 120

-- What is asked for year h, and what is told of it by a table: two entries for each stretch.
abbrev pub asked_of_year : List ℕ → ℕ → List ℕ → List Asked
asked_of_year table h buffer = InYears h else 1 ∷ (length (stretch_rows table h) ≤ length buffer) else 10 ∷ []

abbrev pub StretchesTold : List Asked → List ℕ → ℕ → ListAnswer → Type 0
StretchesTold asked table h =
    Promised (λ (r : ListAnswer). r.refusal) asked
    (λ r. 2 * r.count ≡ length (stretch_rows table h)) (λ n r. r.count ≡ cond (eqb n 10) (length (stretch_rows table h)) 0)

-- What `stretches` promises: by the wing's table, and the wing is asked first.
abbrev pub PromisedStretches : ℕ → ℕ → List ℕ → ListAnswer → Type 0
PromisedStretches wing h buffer = StretchesTold (IsWing wing else 15 ∷ asked_of_year (table_of wing) h buffer) (table_of wing) h
