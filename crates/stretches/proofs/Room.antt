-- The most stretches that a year has, and so the room that is enough for any year.
use mathlib.Core.Path.{◌≡◌, refl, ◌∙◌}
use mathlib.Core.List.{List, ◌∷◌}
use mathlib.Core.Logic.{inl, inr}
use Prim.Native.Nat.{ℕ, ◌*◌, ◌≤◌, ◌<◌}
use native.Mathlib.Omega.{arith}
use lib.ListN.{length}
use Rattle.laws.specs.Promise.{◌else◌, FirstUnmet}
use Rattle.days.specs.Weekday.{weekday}
use Rattle.molad.specs.Years.{InYears}
use Rattle.newyear.specs.NewYear.{new_year, year_length}
use Rattle.newyear.proofs.Quick.{quick, new_year_quick}
use Rattle.rest.specs.Wings.{IsWing, table_of}
use Rattle.rest.proofs.Passed.{tables_pass}
use Rattle.stretches.specs.Stretches.{stretch_rows}
use Rattle.stretches.specs.Promises.{most_stretches, stretches_room, asked_of_year}
use Rattle.stretches.specs.Answers.{wing_stretches}
use Rattle.stretches.proofs.OfKind.{as_many, most_in_room, long_by_kind, few}
use Rattle.stretches.proofs.Answers.{stretches_promised}

-- Year 8 has 383 days, and New Year on a Monday.
year_8 : (weekday (new_year 8) ≡ 2) × (year_length 8 ≡ 383)
unfolding year_length quick
year_8 = rw (new_year_quick 8 (omega arith), new_year_quick 9 (omega arith)) (refl, refl)

-- The header's room is that of wing 1's most.
pub room_most : stretches_room ≡ 2 * most_stretches 1
room_most = refl

module _ (wing : ℕ) where
  -- No year of the wing has more stretches.
  pub most_stretches_lem : (h : ℕ) (buffer : List ℕ) → (wing_stretches wing h buffer).refusal ≡ 0 → (wing_stretches wing h buffer).count ≤ most_stretches wing
  most_stretches_lem h buffer z =
      let t = stretches_promised wing h buffer in
      let met = t.done.0 z in
      omega (arith, t.values met, few wing h met.1.0)

  -- So room for these is room for any year.
  pub room_enough : IsWing wing → (h : ℕ) (buffer : List ℕ) → InYears h → 2 * most_stretches wing ≤ length buffer → (wing_stretches wing h buffer).refusal ≡ 0
  room_enough w h buffer y p = (stretches_promised wing h buffer).done.1 (w, (y, (omega (arith, few wing h y), tt)))

  -- And none of it can be spared: year 8 wants it all.
  wanted-8 : length (stretch_rows (table_of wing) 8) ≡ 2 * most_stretches wing
  wanted-8 = long_by_kind (table_of wing) (tables_pass wing) 8 (omega arith) ∙ rw (year_8.0, year_8.1) (as_many wing)

  pub room_needed :
      IsWing wing → (buffer : List ℕ) → length buffer < 2 * most_stretches wing →
      wing_stretches wing 8 buffer ≡ record { refusal = 10; count = 2 * most_stretches wing }
  room_needed w buffer p =
      let t = stretches_promised wing 8 buffer in
      let unmet : FirstUnmet (IsWing wing else 15 ∷ asked_of_year (table_of wing) 8 buffer) 10 = inr (w, inr (omega arith, inl ((λ q. absurd (omega (arith, wanted-8))), refl))) in
      λ i. record { refusal = (t.refused 10 (omega arith)).1 unmet i; count = (t.besides 10 unmet ∙ wanted-8) i }

  -- The header's room is enough in either wing.
  pub stretches_room_lem : IsWing wing → (h : ℕ) (buffer : List ℕ) → InYears h → stretches_room ≤ length buffer → (wing_stretches wing h buffer).refusal ≡ 0
  stretches_room_lem w h buffer y p = room_enough w h buffer y (omega (arith, most_in_room wing))
