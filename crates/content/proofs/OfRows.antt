-- A row is the calendar's exactly if it agrees.
use mathlib.Core.Path.{◌≡◌}
use mathlib.Core.Bool.{true}
use mathlib.Core.List.{List}
use Prim.Native.Nat.{ℕ, ◌+◌, ◌*◌}
use borrow.Author.Tests.{eq-eqb, eqb-true}
use lib.Dec.{eqb}
use lib.ListN.{get_or}
use Rattle.laws.proofs.Tests.{and_left, and_right}
use Rattle.content.specs.Content.{row_agrees}
use Rattle.content.proofs.Calendars.{first_at, days_at, list, CalendarsRow, row_same}

module _ (wing h : ℕ) (bytes : List ℕ) where
  pub row_same_lem : (i k : ℕ) → CalendarsRow wing h bytes i k → row_same wing h bytes i k ≡ true
  unfolding row_agrees
  row_same_lem i k r = rw (eq-eqb _ _ r.0, eq-eqb _ _ r.1.0, eq-eqb _ _ r.1.1)

  pub row_read_lem : (i k : ℕ) → row_same wing h bytes i k ≡ true → CalendarsRow wing h bytes i k
  unfolding row_agrees
  row_read_lem i k e =
      let second = and_right (eqb (first_at bytes i k) (get_or (list wing h i) (2 * k) 0)) _ e in
      let third = and_right (eqb (days_at bytes i k) (get_or (list wing h i) (2 * k + 1) 0)) _ second in
      (eqb-true _ _ (and_left _ _ e), (eqb-true _ _ (and_left _ _ second), eqb-true _ _ third))
