-- A year is the calendar's exactly if it agrees.
use mathlib.Core.Path.{◌≡◌}
use mathlib.Core.Bool.{true}
use mathlib.Core.List.{List}
use Prim.Native.Nat.{ℕ, ◌+◌}
use native.Mathlib.Omega.{arith}
use borrow.Author.Tests.{eq-eqb, eqb-true}
use lib.Dec.{eqb}
use Rattle.laws.proofs.Tests.{and_left, and_right, at, passed}
use Rattle.newyear.specs.NewYear.{year_length}
use Rattle.sheet.specs.Sheet.{rows_in}
use Rattle.sheet.specs.Promises.{rows_told, length_told}
use Rattle.content.specs.Content.{rows_agree, year_agrees}
use Rattle.content.proofs.Calendars.{CalendarsYear, row_same}
use Rattle.content.proofs.OfRows.{row_same_lem, row_read_lem}

module _ (wing h : ℕ) (bytes : List ℕ) where
  pub year_same : (i : ℕ) → CalendarsYear wing h bytes i → year_agrees wing bytes i (h + i) ≡ true
  unfolding year_agrees rows_agree
  year_same i t =
      rw (
        eq-eqb _ _ t.long,
        eq-eqb _ _ t.many,
        passed 0 (rows_in wing (h + i)) (row_same wing h bytes i) (λ k l u. row_same_lem wing h bytes i k (t.each k (omega arith))),
      )

  pub year_read : (i : ℕ) → year_agrees wing bytes i (h + i) ≡ true → CalendarsYear wing h bytes i
  unfolding year_agrees rows_agree
  year_read i e =
      let second = and_right (eqb (length_told bytes i) (year_length (h + i))) _ e in
      let third = and_right (eqb (rows_told bytes i) (rows_in wing (h + i))) _ second in
      record {
        long = eqb-true _ _ (and_left _ _ e);
        many = eqb-true _ _ (and_left _ _ second);
        each = λ k p. row_read_lem wing h bytes i k (at 0 (rows_in wing (h + i)) (row_same wing h bytes i) third k (omega arith) (omega arith));
      }
