-- What is answered where a wing's list of a year is asked for: the wing and the year's span; or why there is none.
use Rattle.std.specs.Prelude.{◌≡◌, ℕ, ◌≤◌, Result, MatchResult}
use Rattle.refusals.specs.Refusals.{number_of as refusal_number}
use Rattle.refusals.specs.declared.Refusal.{Refusal}
use Rattle.newyear_code.specs.declared.span.Span.{Span}
use Rattle.rest.specs.Steps.{list_refusal}
use Rattle.rest_table.specs.Wing.{number_of}
use Rattle.rest_table.specs.declared.wings.Wing.{Wing}

abbrev pub IsAsked : ℕ → ℕ → Result (Wing × Span) Refusal → Type 0
IsAsked wing h r =
    MatchResult r (λ told. (list_refusal wing h ≡ 0) × ((number_of told.0 ≡ wing) × (told.1.year ≡ h)))
    (λ why. (1 ≤ list_refusal wing h) × (refusal_number why ≡ list_refusal wing h))
