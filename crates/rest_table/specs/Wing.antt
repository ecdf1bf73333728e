-- The number of each wing, and which wing a number names.
use Rattle.std.specs.Prelude.{◌≡◌, true, ℕ, Result, MatchResult}
use Rattle.refusals.specs.declared.Refusal.{Refusal}
use Rattle.refusals.specs.declared.Refusal.TheVariants.{BadWing}
use Rattle.rest.specs.Wings.{out_of_wings}
use Rattle.rest_table.specs.declared.wings.Wing.{Wing}
use Rattle.rest_table.specs.declared.wings.Wing.TheVariants.{Hall, Guest}

abbrev pub number_of : Wing → ℕ
number_of Hall = 1
number_of Guest = 2

-- The wing of this number; or refusal 15, for a number that is neither 1 nor 2.
abbrev pub Names : ℕ → Result Wing Refusal → Type 0
Names number r = MatchResult r (λ wing. number_of wing ≡ number) (λ why. (why ≡ BadWing) × (out_of_wings number ≡ true))
