-- The contract of each step leaves one result.
use mathlib.Core.Path.{◌≡◌, sym, ap, ◌∙◌}
use mathlib.Core.Bool.{◌||◌, false}
use Prim.Native.Nat.{ℕ}
use Rattle.std.proofs.Common.{Result, Ok, Err}
use Rattle.laws.proofs.Tests.{clash}
use Rattle.refusals.specs.declared.Refusal.{Refusal}
use Rattle.molad.specs.Years.{out_of_years, leap}
use Rattle.molad.specs.Molad.{no_month}
use Rattle.molad_code.specs.Asked.{IsMonthAsked}
use Rattle.molad_code.specs.Steps.{IsMonths, IsMolad, IsMoladOf}
use Rattle.molad_code.specs.declared.months.Months.{Months}
use Rattle.molad_code.specs.declared.parts.Molad.{Molad}

pub months_before_one : (h : ℕ) (r s : Months) → IsMonths h r → IsMonths h s → r ≡ s
months_before_one h r s p q =
    λ i. record {
      months = (p.0 ∙ sym q.0) i;
      leap = (p.1.0 ∙ sym q.1.0) i;
      after_leap = (p.1.1.0 ∙ sym q.1.1.0) i;
    }

pub molad_after_one : (months : ℕ) (r s : Molad) → IsMolad months r → IsMolad months s → r ≡ s
molad_after_one months r s p q = λ i. record { day = (p.0 ∙ sym q.0) i; time = (p.1.0 ∙ sym q.1.0) i }

module _ {A : Type 0} (h code : ℕ) (Told : A → Type 0) where
  told_or_refused : (x : A) (why : Refusal) → IsMonthAsked h code Told (Ok x) → IsMonthAsked h code Told (Err why) → ⊥
  told_or_refused x why p q = let covered : out_of_years h || no_month (leap h) code ≡ false = rw (p.0, p.1.0) in clash _ q.0 covered

  pub month_asked_one : ((x y : A) → Told x → Told y → x ≡ y) → (r s : Result A Refusal) → IsMonthAsked h code Told r → IsMonthAsked h code Told s → r ≡ s
  month_asked_one one (Ok x) (Ok y) p q = ap Ok (one x y p.1.1 q.1.1)
  month_asked_one one (Ok x) (Err why) p q = absurd (told_or_refused x why p q)
  month_asked_one one (Err why) (Ok y) p q = absurd (told_or_refused y why q p)
  month_asked_one one (Err why) (Err too) p q = ap Err (p.1 ∙ sym q.1)

pub molad_of_one : (h code : ℕ) (r s : Result Molad Refusal) → IsMonthAsked h code (IsMoladOf h code) r → IsMonthAsked h code (IsMoladOf h code) s → r ≡ s
molad_of_one h code = month_asked_one h code (IsMoladOf h code) (λ m n p q i. record { day = (p.0 ∙ sym q.0) i; time = (p.1 ∙ sym q.1) i })
