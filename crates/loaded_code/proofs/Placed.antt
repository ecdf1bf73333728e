-- What is answered of a year's rows, by what is known of the bytes.
use mathlib.Core.Path.{◌≡◌, ◌∙◌}
use mathlib.Core.Bool.{true, false, ◌&&◌}
use mathlib.Core.List.{List}
use Prim.Native.Nat.{ℕ, ◌+◌, ◌*◌, ◌-◌, ◌≤◌, ◌<◌}
use native.Mathlib.Omega.{arith}
use lib.ListN.{length}
use Rattle.std.proofs.Common.{is_le, is_lt, nat_cmp}
use Rattle.std.proofs.lemmas.Bool.Decides.{nat_tests}
use Rattle.laws.specs.Runs.{outside}
use Rattle.refusals.specs.Refusals.{number_of}
use Rattle.refusals.specs.declared.Refusal.{Refusal}
use Rattle.refusals.proofs.Named.{numbered}
use Rattle.sheet.specs.Promises.{offset_told, rows_told}
use Rattle.accepted.specs.Check.{years_told, first_told, loaded_refusal}
use Rattle.accepted.proofs.Refusal.{accepted}
use Rattle.loaded.specs.Rows.{no_rows, rows_answer}
use Rattle.loaded.proofs.Answers.{rows_refused, rows_of_sheet}

pub off : (first count year : ℕ) → 1 ≤ count → false ≡ is_le (nat_cmp first year) && is_lt (nat_cmp year (first + count)) → outside first (first + count - 1) year ≡ true
off first count year p e = grind (arith, nat_tests)

pub on : (first count year : ℕ) → 1 ≤ count → true ≡ is_le (nat_cmp first year) && is_lt (nat_cmp year (first + count)) → outside first (first + count - 1) year ≡ false
on first count year p e = grind (arith, nat_tests)

pub inside : (first count year : ℕ) → 1 ≤ count → true ≡ is_le (nat_cmp first year) && is_lt (nat_cmp year (first + count)) → (first ≤ year) × (year < first + count)
inside first count year p e = (grind (arith, nat_tests), grind (arith, nat_tests))

module _ (wing : ℕ) (bytes : List ℕ) (year : ℕ) where
  pub refused_rows : (why : Refusal) → number_of why ≡ loaded_refusal wing bytes → rows_answer wing bytes year ≡ no_rows (number_of why)
  refused_rows why e = rw e (rows_refused wing bytes year (λ z. omega (arith, e, z, numbered why)))

  module _ (z : loaded_refusal wing bytes ≡ 0) where
    some : 1 ≤ years_told bytes
    some = (accepted wing bytes z).1.0.0.0

    pub off_answer : false ≡ is_le (nat_cmp (first_told bytes) year) && is_lt (nat_cmp year (first_told bytes + years_told bytes)) → rows_answer wing bytes year ≡ no_rows 1
    off_answer e = rows_of_sheet wing bytes year z ∙ rw (off (first_told bytes) (years_told bytes) year some e)

    module _ (e : true ≡ is_le (nat_cmp (first_told bytes) year) && is_lt (nat_cmp year (first_told bytes + years_told bytes))) where
      pub on_answer :
          rows_answer wing bytes year
          ≡ record { refusal = 0; offset = offset_told bytes (year - first_told bytes); length = 6 * rows_told bytes (year - first_told bytes) }
      on_answer = rows_of_sheet wing bytes year z ∙ rw (on (first_told bytes) (years_told bytes) year some e)

      -- The year's entry lies within.
      pub entry_inside : 24 + 8 * (year - first_told bytes) ≤ length bytes
      entry_inside =
          let i = inside (first_told bytes) (years_told bytes) year some e in
          omega (arith, i.0, i.1, (accepted wing bytes z).1.1.0.size)
