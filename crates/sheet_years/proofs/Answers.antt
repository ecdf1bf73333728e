-- The contract of `Years::new` leaves one result, and a first year and a count have one `Years`.
use mathlib.Core.Path.{◌≡◌, sym, ◌∙◌, ap}
use mathlib.Core.HLevel.{is_prop→PathP}
use Prim.Native.Nat.{ℕ}
use Rattle.std.proofs.Common.{Result, Ok, Err}
use Rattle.std.proofs.Props.{props}
use Rattle.laws.proofs.Tests.{clash}
use Rattle.refusals.specs.declared.Refusal.{Refusal}
use Rattle.sheet_years.specs.Asked.{strange, YearsAsked}
use Rattle.sheet_years.specs.Years.{AreYears}
use Rattle.sheet_years.specs.declared.years.Years.{Years}

are_years_prop : (h n : ℕ) → IsProp (AreYears h n)
are_years_prop h n = Prim.hlevel props

pub years_one : (r s : Years) → r.first ≡ s.first → r.count ≡ s.count → r ≡ s
years_one r s f n =
    λ i. record {
      first = f i;
      count = n i;
      covered = is_prop→PathP (λ j. AreYears (f j) (n j)) (λ j. are_years_prop (f j) (n j)) r.covered s.covered i;
    }

pub years_asked_one : (h n : ℕ) (r s : Result Years Refusal) → YearsAsked h n r → YearsAsked h n s → r ≡ s
years_asked_one h n (Ok x) (Ok y) p q = ap Ok (years_one x y (p.first ∙ sym q.first) (p.count ∙ sym q.count))
years_asked_one h n (Ok x) (Err why) p q = absurd (clash (strange h n) q.bad p.good)
years_asked_one h n (Err why) (Ok y) p q = absurd (clash (strange h n) p.bad q.good)
years_asked_one h n (Err why) (Err other) p q = ap Err (p.named ∙ sym q.named)
