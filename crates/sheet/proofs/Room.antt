-- The most bytes that any sheet takes: those of the hundred years with the most stretches.
use mathlib.Core.Path.{◌≡◌, refl, ◌∙◌}
use mathlib.Core.Bool.{Bool, true, false, cond}
use mathlib.Core.List.{List, ◌∷◌}
use mathlib.Core.Logic.{inl, inr}
use Prim.Native.Nat.{ℕ, ◌+◌, ◌*◌, ◌-◌, ◌≤◌, ◌<◌}
use native.Mathlib.Omega.{arith}
use lib.Dec.{eqb}
use lib.ListN.{length}
use Rattle.laws.proofs.Tests.{cond_le}
use Rattle.laws.proofs.Joins.{total_alike}
use Rattle.laws.specs.Promise.{◌else◌, FirstUnmet}
use Rattle.molad.specs.Years.{InYears}
use Rattle.rest.specs.Wings.{IsWing}
use Rattle.counts.specs.Counts.{count_in}
use Rattle.counts.specs.Promises.{count_from, most_count, most_from}
use Rattle.counts.proofs.Counted.{counted}
use Rattle.sheet.specs.Sheet.{most_years, rows_in, rows_before, sheet_size}
use Rattle.sheet.specs.Answers.{wing_sheet}
use Rattle.sheet.specs.Promises.{asked_of_sheet, most_bytes, sheet_room}
use Rattle.sheet.proofs.Answers.{sheet_promised}

module _ (wing : ℕ) where
  rows_counted : (h : ℕ) → InYears h → rows_in wing h ≡ count_in wing h
  unfolding rows_in
  rows_counted h y = omega (arith, (counted wing).listed h y)

  rows_from : (h n : ℕ) → 1 ≤ h → h + n ≤ 10000 → rows_before wing h n ≡ count_from wing h n
  unfolding rows_before
  rows_from h n l u = total_alike _ _ n (λ i p. rows_counted (h + i) (omega arith, omega arith))

  most_early : (1 ≤ most_from wing) × (most_from wing ≤ 458)
  most_early = go (eqb wing 1)
    where
      go : (first : Bool) → (1 ≤ cond first 458 163) × (cond first 458 163 ≤ 458)
      go true = (omega arith, omega arith)
      go false = (omega arith, omega arith)

  -- The bytes are those of the header and the index, and 6 for each row.
  bytes_of : 16 + 8 * 100 + 6 * most_count wing ≡ most_bytes wing
  bytes_of = go (eqb wing 1)
    where
      go : (first : Bool) → 16 + 8 * 100 + 6 * cond first 5639 5547 ≡ cond first 34650 34098
      go true = refl
      go false = refl

  in_room : most_bytes wing ≤ sheet_room
  in_room = cond_le (eqb wing 1) 34650 34098 sheet_room (omega arith) (omega arith)

  size_most : (h years : ℕ) → 1 ≤ h → years ≤ most_years → h + years ≤ 10000 → sheet_size wing h years ≤ most_bytes wing
  unfolding sheet_size
  size_most h years l u p = omega (arith, rows_from h years l p, (counted wing).most h years l u p, bytes_of)

  pub size_found : sheet_size wing (most_from wing) 100 ≡ most_bytes wing
  unfolding sheet_size
  size_found =
      let e = most_early in
      omega (arith, rows_from (most_from wing) 100 e.0 (omega (arith, e.1)), (counted wing).reached, bytes_of)

  -- So no sheet of the wing has more bytes, and room for these is room for any.
  pub most_bytes_lem : (h years : ℕ) (buffer : List ℕ) → (wing_sheet wing h years buffer).refusal ≡ 0 → (wing_sheet wing h years buffer).count ≤ most_bytes wing
  most_bytes_lem h years buffer z =
      let t = sheet_promised wing h years buffer in
      let met = t.done.0 z in
      omega (arith, t.values met, size_most h years met.1.1.0.0.0 met.1.0.1 (omega (arith, met.1.1.0.1.1)))

  pub sheet_room_lem :
      IsWing wing → (h years : ℕ) (buffer : List ℕ) → (1 ≤ years) × (years ≤ most_years) → InYears h × InYears (h + years - 1) →
      sheet_room ≤ length buffer → (wing_sheet wing h years buffer).refusal ≡ 0
  sheet_room_lem w h years buffer y e p =
      (sheet_promised wing h years buffer).done.1
      (w, (y, (e, (omega (arith, size_most h years e.0.0 y.1 (omega (arith, e.1.1)), in_room), tt))))

  -- And none of it can be spared: the hundred years from `most_from` on want it all.
  pub sheet_room_needed :
      IsWing wing → (buffer : List ℕ) → length buffer < most_bytes wing →
      wing_sheet wing (most_from wing) 100 buffer ≡ record { refusal = 10; count = most_bytes wing }
  sheet_room_needed w buffer p =
      let t = sheet_promised wing (most_from wing) 100 buffer in
      let e = most_early in
      let unmet : FirstUnmet (IsWing wing else 15 ∷ asked_of_sheet wing (most_from wing) 100 buffer) 10 =
      inr (w, inr ((omega arith, omega arith), inr (((e.0, omega (arith, e.1)), (omega arith, omega (arith, e.1))), inl ((λ q. absurd (omega (arith, size_found))), refl))))
      in
      λ i. record { refusal = (t.refused 10 (omega arith)).1 unmet i; count = (t.besides 10 unmet ∙ size_found) i }

-- The header's room is that of wing 1's most.
pub sheet_room_most : sheet_room ≡ most_bytes 1
sheet_room_most = refl
