-- What `sheet_on_lines` promises, and that its contract leaves one answer and one state of the lent bytes.
use mathlib.Core.Path.{◌≡◌, refl, ◌∙◌}
use mathlib.Core.Bool.{false, cond}
use mathlib.Core.List.{List}
use mathlib.Core.Logic.{◌↔◌, ⊎_elim}
use Prim.Native.Nat.{ℕ, ◌+◌, ◌-◌, ◌≤◌}
use native.Mathlib.Omega.{arith}
use lib.Dec.{eqb}
use lib.ListN.{length}
use Rattle.laws.specs.Buffer.{Lent}
use Rattle.laws.proofs.One.{one_result}
use Rattle.laws.proofs.Promises.{restated}
use Rattle.lists.specs.declared.ListAnswer.{ListAnswer}
use Rattle.line.specs.Line.{first_line, after_line, IsNumber, decimal}
use Rattle.line.proofs.Answers.{number_on_line_promised, by_figures}
use Rattle.molad.specs.Years.{InYears}
use Rattle.rest.specs.Wings.{IsWing}
use Rattle.sheet.specs.Sheet.{most_years, sheet_size, sheet}
use Rattle.sheet.specs.Promises.{sheet_room}
use Rattle.sheet.proofs.Answers.{sheet_promised, sheet_lent}
use Rattle.sheet.proofs.Room.{sheet_room_lem}
use Rattle.filing.specs.Promises.{second_line, third_line, sheet_on, size_on, PromisedOnLines}
use Rattle.filing.specs.Answers.{wing_on, first_year_on, years_on, sheet_on_lines, sheet_on_lines_buffer}

-- What is asked of the second line goes by the number on the third.
first_year :
    (input : List ℕ) → let second = first_line (after_line input) in let third = first_line (after_line (after_line input)) in
    IsNumber third →
    (InYears (first_year_on input) × InYears (first_year_on input + years_on input - 1))
    ↔ (IsNumber second × (InYears (decimal second) × InYears (decimal second + decimal third - 1)))
first_year input y =
    let last = after_line (after_line input) in
    rw ((number_on_line_promised last).values (y, tt))
    (by_figures (after_line input) (λ h. InYears h × InYears (h + decimal (first_line last) - 1)) (λ m. omega (arith, m.0.0)))

-- Where all three lines hold numbers, these are what is passed on.
module _ (input : List ℕ) (wing : IsNumber (first_line input)) (year : IsNumber (second_line input)) (years : IsNumber (third_line input)) where
  passed_on : {A : Type 0} (f : ℕ → ℕ → ℕ → A) → f (wing_on input) (first_year_on input) (years_on input) ≡ f (decimal (first_line input)) (decimal (second_line input)) (decimal (third_line input))
  passed_on f =
      rw (
        (number_on_line_promised input).values (wing, tt),
        (number_on_line_promised (after_line input)).values (year, tt),
        (number_on_line_promised (after_line (after_line input))).values (years, tt),
      )

  same_size : sheet_size (wing_on input) (first_year_on input) (years_on input) ≡ size_on input
  same_size = passed_on sheet_size

  same_room : (room : ℕ) → (sheet_size (wing_on input) (first_year_on input) (years_on input) ≤ room) ↔ (size_on input ≤ room)
  same_room room = (λ p. rw (← same_size) p, λ p. rw same_size p)

-- A refusal that is not 10 tells no size.
no_size : (k n a b : ℕ) → k ≡ n → eqb k 10 ≡ false → cond (eqb n 10) a 0 ≡ cond (eqb n 10) b 0
no_size k n a b e f = rw (← e, f)

pub sheet_on_lines_promised : (input buffer : List ℕ) → PromisedOnLines input buffer (sheet_on_lines input buffer)
unfolding sheet_on_lines
sheet_on_lines_promised input buffer =
    let p =
    restated (by_figures input IsWing (⊎_elim (λ e. omega arith) (λ e. omega arith))) (λ w.
    restated (by_figures (after_line (after_line input)) (λ n. (1 ≤ n) × (n ≤ most_years)) (λ m. omega (arith, m.0))) (λ y.
    restated (first_year input y.0) (λ h.
    restated (same_room input w.0 h.0 y.0 (length buffer)) (λ _ p. p))))
    (sheet_promised (wing_on input) (first_year_on input) (years_on input) buffer)
    in
    record {
      done = p.done;
      values = λ m. p.values m ∙ same_size input m.0.0 m.1.1.0.0 m.1.0.0;
      refused = p.refused;
      besides = λ n u.
          p.besides n u
          ∙ ⊎_elim (λ v. no_size 15 n _ _ v.1 refl) (λ w.
          ⊎_elim (λ v. no_size 11 n _ _ v.1 refl) (λ y.
          ⊎_elim (λ v. no_size 1 n _ _ v.1 refl) (λ h. rw (same_size input w.0.0 h.0.0 y.0.0)) y.1) w.1) u;
    }

module _ (input buffer : List ℕ) where
  -- Done, the lent bytes begin with the sheet, and those beyond it are as they were; refused, all are.
  pub sheet_on_lines_lent : Lent (sheet_on_lines input buffer).refusal (sheet_on input) buffer (sheet_on_lines_buffer input buffer)
  unfolding sheet_on_lines sheet_on_lines_buffer
  sheet_on_lines_lent =
      let lent = sheet_lent (wing_on input) (first_year_on input) (years_on input) buffer in
      record {
        untouched = lent.untouched;
        written = λ z.
            let met = (sheet_on_lines_promised input buffer).done.0 z in
            rw (passed_on input met.0.0 met.1.1.0.0 met.1.0.0 sheet) at (lent.written z);
      }

  -- The bytes that are told as written stand in the lent ones.
  pub written_in_room : (sheet_on_lines input buffer).refusal ≡ 0 → (sheet_on_lines input buffer).count ≤ length buffer
  written_in_room z =
      let p = sheet_on_lines_promised input buffer in
      let met = p.done.0 z in
      rw (p.values met) met.1.1.1.0

  -- With room for any sheet, as the program has it, nothing is refused with 10.
  pub room_enough : sheet_room ≤ length buffer → (sheet_on_lines input buffer).refusal ≡ 10 → ⊥
  unfolding sheet_on_lines
  room_enough l e =
      let wing = wing_on input in
      let h = first_year_on input in
      let n = years_on input in
      ⊎_elim (λ u. omega (arith, u.1)) (λ w.
      ⊎_elim (λ u. omega (arith, u.1)) (λ y.
      ⊎_elim (λ u. omega (arith, u.1)) (λ i. omega (arith, sheet_room_lem wing w.0 h n buffer y.0 i.0 l)) y.1) w.1)
      (((sheet_promised wing h n buffer).refused 10 (omega arith)).0 e)

  -- One answer, and one state of the bytes.
  pub sheet_on_lines_one : (r s : ListAnswer) → r ≡ sheet_on_lines input buffer → s ≡ sheet_on_lines input buffer → r ≡ s
  sheet_on_lines_one = one_result (sheet_on_lines input buffer)

  pub sheet_on_lines_buffer_one : (r s : List ℕ) → r ≡ sheet_on_lines_buffer input buffer → s ≡ sheet_on_lines_buffer input buffer → r ≡ s
  sheet_on_lines_buffer_one = one_result (sheet_on_lines_buffer input buffer)
