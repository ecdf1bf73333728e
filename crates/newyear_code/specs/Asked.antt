-- What is answered where a year's span is asked for: the span, of the year meant; or why there is none.
use Rattle.std.specs.Prelude.{◌≡◌, Bool, true, false, ℕ, Result, MatchResult}
use Rattle.refusals.specs.declared.Refusal.{Refusal}
use Rattle.newyear_code.specs.declared.span.Span.{Span}

-- `outside` tells that there is none; then it is refused with `why`.
abbrev pub IsAsked : Bool → Refusal → ℕ → Result Span Refusal → Type 0
IsAsked outside why year r = MatchResult r (λ span. (outside ≡ false) × (span.year ≡ year)) (λ refused. (outside ≡ true) × (refused ≡ why))
