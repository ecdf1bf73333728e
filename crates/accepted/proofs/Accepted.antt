-- What it means that bytes are accepted for a sheet.
use mathlib.Core.Path.{◌≡◌, refl}
use mathlib.Core.Bool.{Bool, true, false, not, cond, false≢true}
use mathlib.Core.List.{List}
use Prim.Native.Nat.{ℕ, ◌+◌, ◌*◌, ◌-◌, ◌≤◌, ◌<◌}
use native.Mathlib.Omega.{arith}
use borrow.Author.Tests.{eq-eqb, eqb-true, ltb-true, ltb-false, not-false}
use lib.Dec.{eqb, ltb}
use lib.ListN.{length}
use Rattle.laws.specs.Promise.{Asked, Promised}
use Rattle.laws.specs.Runs.{every}
use Rattle.laws.proofs.Tests.{and_left, and_right, passed, equal}
use Rattle.laws.proofs.Joins.{total_more, total_grows}
use Rattle.laws.proofs.Promises.{Catches, ranged, either, asks}
use Rattle.molad.specs.Years.{last_year}
use Rattle.layout.specs.Layout.{rows_offset}
use Rattle.rest.specs.Wings.{out_of_wings}
use Rattle.rest.proofs.Wings.{wings}
use Rattle.sheet.specs.Sheet.{most_years}
use Rattle.sheet.specs.Promises.{offset_told, rows_told, rows_told_before}
use Rattle.content.proofs.Told.{sheet_agrees, agrees_sheet}
use Rattle.accepted.specs.Check.{years_told, first_told, count_told, index_told, rows_at_told, strange_years, entry_placed, index_placed, placed, differs, of_loaded, loaded_refusal}
use Rattle.accepted.specs.Promises.{WritersYears, Placed, OfCalendar, asked_of_loaded}

-- One number tells what is given.
by_number :
    {A : Type 0} (f : ℕ → A) (x : A) (w a b c d : Bool) → let n : ℕ = cond w 15 (cond a 16 (cond b 17 (cond c 18 (cond d 19 0)))) in
    let r : A = cond w (f 15) (cond a (f 16) (cond b (f 17) (cond c (f 18) (cond d (f 19) x)))) in
    ((n ≡ 0) → r ≡ x) × ((¬ (n ≡ 0)) → r ≡ f n)
by_number f x true a b c d = (λ e. absurd (omega arith), λ _. refl)
by_number f x false true b c d = (λ e. absurd (omega arith), λ _. refl)
by_number f x false false true c d = (λ e. absurd (omega arith), λ _. refl)
by_number f x false false false true d = (λ e. absurd (omega arith), λ _. refl)
by_number f x false false false false true = (λ e. absurd (omega arith), λ _. refl)
by_number f x false false false false false = (λ _. refl, λ e. absurd (e refl))

module _ (bytes : List ℕ) where
  -- What each test catches.
  short : Catches (ltb (length bytes) 16) (16 ≤ length bytes)
  short = record { passes = ltb-false _ _; catches = λ e m. omega (arith, ltb-true (length bytes) 16 e) }

  pub strange : Catches (strange_years bytes) (WritersYears bytes)
  strange = either (ranged 1 most_years (years_told bytes)) (either (ranged 1 last_year (first_told bytes)) (ranged 1 last_year (first_told bytes + years_told bytes - 1)))

  pub all_fit : placed bytes ≡ true → Placed bytes
  unfolding placed index_placed
  all_fit e =
      let years = years_told bytes in
      let second = and_right (eqb (index_told bytes) 16) _ e in
      let third = and_right (eqb (rows_at_told bytes) (rows_offset years)) _ second in
      let fourth = and_right (eqb (count_told bytes) (rows_told_before bytes years)) _ third in
      record {
        index_offset_is = eqb-true _ _ (and_left _ _ e);
        rows_offset_is = eqb-true _ _ (and_left _ _ second);
        rows_counted = eqb-true _ _ (and_left _ _ third);
        offsets = λ i p. equal 0 years (offset_told bytes) (λ i. rows_offset years + 6 * rows_told_before bytes i) (and_left _ _ fourth) i (omega arith) (omega arith);
        size = eqb-true _ _ (and_right (every 0 years (entry_placed bytes years)) _ fourth);
      }

  fit_all : Placed bytes → placed bytes ≡ true
  unfolding placed index_placed
  fit_all p =
      let years = years_told bytes in
      rw (
        eq-eqb (index_told bytes) 16 p.index_offset_is,
        eq-eqb (rows_at_told bytes) (rows_offset years) p.rows_offset_is,
        eq-eqb (count_told bytes) (rows_told_before bytes years) p.rows_counted,
        passed 0 years (entry_placed bytes years) (λ i l u. eq-eqb (offset_told bytes i) (rows_offset years + 6 * rows_told_before bytes i) (p.offsets i (omega arith))),
        eq-eqb (length bytes) (rows_offset years + 6 * count_told bytes) p.size,
      )

  misplaced : Catches (not (placed bytes)) (Placed bytes)
  misplaced = record { passes = λ e. all_fit (not-false (placed bytes) e); catches = λ e m. false≢true (rw (fit_all m) at e) }

  -- A year's rows lie within the sheet.
  pub rows_inside : Placed bytes → (i : ℕ) → i < years_told bytes → offset_told bytes i + 6 * rows_told bytes i ≤ length bytes
  unfolding rows_told_before
  rows_inside fits i p =
      omega (arith, fits.offsets i p, fits.size, fits.rows_counted, total_more (rows_told bytes) i, total_grows (rows_told bytes) (i + 1) (years_told bytes) (omega arith))

module _ (wing : ℕ) (bytes : List ℕ) where
  pub where_accepted : {A : Type 0} (refused : ℕ → A) (given : A) → loaded_refusal wing bytes ≡ 0 → of_loaded wing bytes refused given ≡ given
  unfolding loaded_refusal
  where_accepted refused given = (by_number refused given (out_of_wings wing) (ltb (length bytes) 16) (strange_years bytes) (not (placed bytes)) (differs wing bytes)).0

  pub where_refused : {A : Type 0} (refused : ℕ → A) (given : A) → (¬ (loaded_refusal wing bytes ≡ 0)) → of_loaded wing bytes refused given ≡ refused (loaded_refusal wing bytes)
  unfolding loaded_refusal
  where_refused refused given = (by_number refused given (out_of_wings wing) (ltb (length bytes) 16) (strange_years bytes) (not (placed bytes)) (differs wing bytes)).1

  -- What the content compared with the calendar says, of bytes that fit together.
  calendar : WritersYears bytes → Placed bytes → Catches (differs wing bytes) (OfCalendar wing bytes)
  calendar y p =
      let h = first_told bytes in
      let years = years_told bytes in
      let from = y.1.0.0 in
      let to : h + years ≤ 10000 = omega (arith, y.0.0, y.1.1.1) in
      let all : length bytes ≡ 16 + 8 * years + 6 * rows_told_before bytes years = rw (← p.rows_counted) p.size in
      record {
        passes = λ e. agrees_sheet wing h years bytes from to refl refl p.rows_counted p.index_offset_is p.rows_offset_is all p.offsets (not-false _ e);
        catches = λ e m. false≢true (rw (sheet_agrees wing h years bytes from to m) at e);
      }

  -- 15 to 19 are asked in turn, before all else.
  pub loaded_promised :
      {A : Type 0} {number : A → ℕ} {asked : List Asked} {Values : A → Type 0} {Besides : ℕ → A → Type 0} (refused : ℕ → A) (given : A) →
      ((n : ℕ) → number (refused n) ≡ n) → ((n : ℕ) → Besides n (refused n)) →
      (WritersYears bytes → Placed bytes → Promised number asked Values Besides given) →
      Promised number (asked_of_loaded wing bytes asked) Values Besides (of_loaded wing bytes refused given)
  loaded_promised refused given number besides f =
      asks (refused 15) (wings wing) (omega arith) (number 15) (besides 15) (λ _.
      asks (refused 16) (short bytes) (omega arith) (number 16) (besides 16) (λ _.
      asks (refused 17) (strange bytes) (omega arith) (number 17) (besides 17) (λ years.
      asks (refused 18) (misplaced bytes) (omega arith) (number 18) (besides 18) (λ fits.
      asks (refused 19) (calendar years fits) (omega arith) (number 19) (besides 19) (λ _.
      f years fits)))))
