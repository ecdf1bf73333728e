-- What `sheet_write` promises, and that its contract leaves one answer and one state of the lent bytes.
use mathlib.Core.Path.{◌≡◌, refl, sym, ◌∙◌}
use mathlib.Core.Bool.{Bool}
use mathlib.Core.List.{List}
use Prim.Native.Nat.{ℕ, ◌+◌, ◌-◌, ◌≤◌}
use native.Mathlib.Omega.{arith}
use borrow.Author.Tests.{ltb-true, ltb-false}
use lib.Dec.{ltb}
use lib.ListN.{length, take}
use Rattle.laws.specs.Buffer.{Lent}
use Rattle.laws.specs.Runs.{outside}
use Rattle.laws.proofs.One.{one_result}
use Rattle.laws.proofs.Stores.{list_written, lent_done, lent_unless}
use Rattle.laws.proofs.Promises.{Catches, ranged, either, asks, answered}
use Rattle.molad.specs.Years.{last_year}
use Rattle.lists.specs.Lists.{no_list}
use Rattle.lists.specs.declared.ListAnswer.{ListAnswer}
use Rattle.rest.specs.Wings.{IsWing}
use Rattle.rest.proofs.Wings.{wing_promised, wing_lent}
use Rattle.sheet.specs.Sheet.{most_years, sheet_size, sheet}
use Rattle.sheet.specs.Answers.{ends_outside, sheet_answer, sheet_buffer, wing_sheet, wing_sheet_buffer}
use Rattle.sheet.specs.Promises.{PromisedSheet, SheetOf}
use Rattle.sheet.proofs.Sizes.{sheet_long}
use Rattle.sheet.proofs.ReadBack.{sheet_of}

module _ (wing h years : ℕ) (buffer : List ℕ) where
  room : Catches (ltb (length buffer) (sheet_size wing h years)) (sheet_size wing h years ≤ length buffer)
  room = record { passes = ltb-false _ _; catches = λ e m. omega (arith, ltb-true (length buffer) (sheet_size wing h years) e) }

  -- 15, 11, 1 and 10 are asked in turn; done or refused with 10, it tells the bytes.
  pub sheet_promised : PromisedSheet wing h years buffer (wing_sheet wing h years buffer)
  unfolding sheet_answer
  sheet_promised =
      wing_promised wing (no_list 15) (λ _. sheet_answer wing h years buffer) refl refl
      (asks (no_list 11) (ranged 1 most_years years) (omega arith) refl refl (λ _.
      asks (no_list 1) (either (ranged 1 last_year h) (ranged 1 last_year (h + years - 1))) (omega arith) refl refl (λ _.
      asks (record { refusal = 10; count = sheet_size wing h years }) room (omega arith) refl refl (λ _.
      answered refl refl))))

  -- The lent bytes.
  pub sheet_lent : Lent (wing_sheet wing h years buffer).refusal (sheet wing h years) buffer (wing_sheet_buffer wing h years buffer)
  unfolding sheet_answer sheet_buffer
  sheet_lent =
      let list = sheet wing h years in
      let unless = lent_unless (λ (r : ListAnswer). r.refusal) in
      wing_lent wing list buffer (λ _. sheet_answer wing h years buffer) (λ _. sheet_buffer wing h years buffer)
      (unless (outside 1 most_years years) (no_list 11) _ list buffer _ (omega arith)
      (unless (ends_outside h years) (no_list 1) _ list buffer _ (omega arith)
      (unless (ltb (length buffer) (sheet_size wing h years)) (record { refusal = 10; count = sheet_size wing h years }) _ list buffer _ (omega arith)
      (lent_done 0 list buffer refl))))

  -- What stands in the bytes when the call is done is what the sheet of these years is.
  pub sheet_written :
      (P : List ℕ → Type 0) → (IsWing wing → 1 ≤ years → years ≤ most_years → 1 ≤ h → h + years ≤ 10000 → P (sheet wing h years)) →
      (wing_sheet wing h years buffer).refusal ≡ 0 → P (take (wing_sheet wing h years buffer).count (wing_sheet_buffer wing h years buffer))
  sheet_written P p z =
      let t = sheet_promised in
      let met = t.done.0 z in
      let y = met.1.0 in
      let ends = met.1.1.0 in
      rw (list_written (sheet wing h years) buffer _ _ _ sheet_lent z (sheet_long wing h years ∙ sym (t.values met)))
      (p met.0 y.0 y.1 ends.0.0 (omega (arith, ends.1.1)))

  pub sheet_given :
      (wing_sheet wing h years buffer).refusal ≡ 0 →
      SheetOf wing h years (take (wing_sheet wing h years buffer).count (wing_sheet_buffer wing h years buffer))
  sheet_given = sheet_written (SheetOf wing h years) (sheet_of wing h years)

  -- One answer, and one state of the bytes.
  pub sheet_one : (r s : ListAnswer) → r ≡ wing_sheet wing h years buffer → s ≡ wing_sheet wing h years buffer → r ≡ s
  sheet_one = one_result (wing_sheet wing h years buffer)

  pub sheet_buffer_one : (r s : List ℕ) → r ≡ wing_sheet_buffer wing h years buffer → s ≡ wing_sheet_buffer wing h years buffer → r ≡ s
  sheet_buffer_one = one_result (wing_sheet_buffer wing h years buffer)

-- One answer of the step that a reader asks too.
pub ends_outside_one : (h years : ℕ) (r s : Bool) → r ≡ ends_outside h years → s ≡ ends_outside h years → r ≡ s
ends_outside_one h years = one_result (ends_outside h years)
