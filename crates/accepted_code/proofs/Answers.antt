-- The contracts of `sheet_refusal` and of `accepted_years` leave one result.
use mathlib.Core.Path.{◌≡◌, sym, ◌∙◌, ap}
use mathlib.Core.List.{List}
use Prim.Native.Nat.{ℕ}
use native.Mathlib.Omega.{arith}
use Rattle.std.proofs.Common.{Option, Some, None, Result, Ok, Err, IfOk, refl}
use Rattle.refusals.specs.Refusals.{refusal_in, number_if}
use Rattle.refusals.specs.declared.Refusal.{Refusal}
use Rattle.refusals.proofs.Named.{numbered, one_refusal}
use Rattle.accepted.specs.Check.{years_told, first_told, loaded_refusal}
use Rattle.sheet_years.proofs.Answers.{years_one}
use Rattle.sheet_years.specs.declared.years.Years.{Years}

module _ (wing : ℕ) (bytes : List ℕ) where
  pub sheet_refusal_one : (r s : Option Refusal) → number_if r ≡ loaded_refusal wing bytes → number_if s ≡ loaded_refusal wing bytes → r ≡ s
  sheet_refusal_one (Some why) (Some other) p q = ap Some (one_refusal why other (p ∙ sym q))
  sheet_refusal_one (Some why) None p q = absurd (omega (arith, p, q, numbered why))
  sheet_refusal_one None (Some why) p q = absurd (omega (arith, p, q, numbered why))
  sheet_refusal_one None None p q = refl

  -- Both clauses of the contract of `accepted_years`.
  abbrev pub Accepts : Result Years Refusal → Type 0
  Accepts r = (refusal_in r ≡ loaded_refusal wing bytes) × IfOk r (λ years. (years.first ≡ first_told bytes) × (years.count ≡ years_told bytes))

  pub accepted_years_one : (r s : Result Years Refusal) → Accepts r → Accepts s → r ≡ s
  accepted_years_one (Ok x) (Ok y) p q = ap Ok (years_one x y (p.1.0 ∙ sym q.1.0) (p.1.1 ∙ sym q.1.1))
  accepted_years_one (Ok x) (Err why) p q = absurd (omega (arith, p.0, q.0, numbered why))
  accepted_years_one (Err why) (Ok y) p q = absurd (omega (arith, p.0, q.0, numbered why))
  accepted_years_one (Err why) (Err other) p q = ap Err (one_refusal why other (p.0 ∙ sym q.0))
