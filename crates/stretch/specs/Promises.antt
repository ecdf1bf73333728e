-- What callers are told of a day: by a table, and for a wing.
use Rattle.std.specs.Prelude.{◌≡◌, List, [], ◌∷◌, ℕ, ◌+◌, ◌-◌, ◌≤◌, ◌<◌, pos, negsuc, ◌-ℤ◌, ◌≤ℤ◌}
use Rattle.laws.specs.Promise.{Asked, ◌else◌, Promised}
use Rattle.laws.specs.Search.{Run}
use Rattle.days.specs.Range.{last_day, InRange}
use Rattle.molad.specs.Years.{InNewYears}
use Rattle.newyear.specs.NewYear.{new_year}
use Rattle.rest.specs.Table.{rest_day}
use Rattle.rest.specs.Wings.{IsWing, table_of}
use Rattle.stretch.specs.Stretches.{StretchFor}
use Rattle.stretch.specs.declared.StretchAnswer.{StretchAnswer}

-- A stretch in range ends on day j or later.
pub record StretchAhead (table : List ℕ) (j : ℕ) : Type 0 where
  pub first : ℕ
  pub days : ℕ
  pub a_stretch : Run (rest_day table) first days
  pub not_over : j < first + days

-- What the stretches of either wing, and of any table that passes the check, have in common: a stretch has one to three
-- days, crosses no New Year and is over by the range's last day; there is one ahead of every day but the last four; days
-- left are -2 to 6.
pub record Shared (table : List ℕ) : Type 0 where
  pub at_most_three : (f c : ℕ) → Run (rest_day table) f c → (1 ≤ c) × (c ≤ 3)
  pub no_crossing : (f c h : ℕ) → Run (rest_day table) f c → InNewYears h → f < new_year h → f + c ≤ new_year h
  pub over : (f c : ℕ) → Run (rest_day table) f c → f + c ≤ last_day
  pub ahead : (j : ℕ) → InRange j → j ≤ last_day - 4 → StretchAhead table j
  pub days_left : (j f c : ℕ) → InRange j → StretchFor table j f c → (f ≤ j + 6) × (j ≤ f + 2)

-- What is asked of day j, and what is told of it by a table where all that is asked is met.
abbrev pub asked_of_day : List ℕ → ℕ → List Asked
asked_of_day table j = InRange j else 4 ∷ StretchAhead table j else 9 ∷ []

abbrev pub StretchTold : List Asked → List ℕ → ℕ → StretchAnswer → Type 0
StretchTold asked table j =
    Promised (λ (r : StretchAnswer). r.refusal) asked
    (λ r.
    StretchFor table j r.first r.length
    × (((1 ≤ r.length) × (r.length ≤ 3))
    × ((r.days_left ≡ pos r.first -ℤ pos j) × ((negsuc 1 ≤ℤ r.days_left) × (r.days_left ≤ℤ pos 6)))))
    (λ n r. (r.first ≡ 0) × ((r.length ≡ 0) × (r.days_left ≡ pos 0)))

-- What `stretch` promises: by the wing's table, and the wing is asked first.
abbrev pub PromisedStretch : ℕ → ℕ → StretchAnswer → Type 0
PromisedStretch wing j = StretchTold (IsWing wing else 15 ∷ asked_of_day (table_of wing) j) (table_of wing) j
