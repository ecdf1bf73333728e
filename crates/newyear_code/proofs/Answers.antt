-- The contract of each step leaves one result.
use mathlib.Core.Path.{◌≡◌, sym, ap, ◌∙◌}
use mathlib.Core.Bool.{Bool}
use mathlib.Core.HLevel.{is_prop→PathP}
use Prim.Native.Nat.{ℕ}
use Rattle.std.proofs.Common.{Result, Ok, Err}
use Rattle.std.proofs.Props.{props}
use Rattle.laws.proofs.Tests.{clash}
use Rattle.refusals.specs.declared.Refusal.{Refusal}
use Rattle.newyear.specs.NewYear.{new_year, year_length, year_of}
use Rattle.newyear_code.specs.Asked.{IsAsked}
use Rattle.newyear_code.specs.Spans.{IsSpan}
use Rattle.newyear_code.specs.declared.span.Span.{Span}

is_span_prop : (h n l : ℕ) → IsProp (IsSpan h n l)
is_span_prop h n l = Prim.hlevel props

pub year_span_one : (h : ℕ) (r s : Span) → r.year ≡ h → s.year ≡ h → r ≡ s
year_span_one h r s p q =
    let y = p ∙ sym q in
    let n = r.is_span.begins ∙ ap new_year y ∙ sym s.is_span.begins in
    let l = r.is_span.days ∙ ap year_length y ∙ sym s.is_span.days in
    λ i. record {
      year = y i;
      new_year = n i;
      length = l i;
      is_span = is_prop→PathP (λ j. IsSpan (y j) (n j) (l j)) (λ j. is_span_prop (y j) (n j) (l j)) r.is_span s.is_span i;
    }

pub year_holding_one : (j : ℕ) (r s : Span) → r.year ≡ year_of j → s.year ≡ year_of j → r ≡ s
year_holding_one j = year_span_one (year_of j)

-- Of `span_of_year` and of `span_of_day`.
pub span_asked_one : (outside : Bool) (why : Refusal) (h : ℕ) (r s : Result Span Refusal) → IsAsked outside why h r → IsAsked outside why h s → r ≡ s
span_asked_one outside why h (Ok x) (Ok y) p q = ap Ok (year_span_one h x y p.1 q.1)
span_asked_one outside why h (Ok x) (Err too) p q = absurd (clash outside q.0 p.0)
span_asked_one outside why h (Err other) (Ok y) p q = absurd (clash outside p.0 q.0)
span_asked_one outside why h (Err other) (Err too) p q = ap Err (p.1 ∙ sym q.1)
