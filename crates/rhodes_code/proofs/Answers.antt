-- The contract of the step leaves one result.
use mathlib.Core.Path.{◌≡◌}
use Prim.Native.Nat.{ℕ}
use Rattle.laws.proofs.One.{one_result}
use Rattle.rhodes_code.specs.Steps.{route_of, IsRoute}
use Rattle.rhodes_code.specs.declared.steps.Route.{Route}

pub route_of_one : (h : ℕ) (r s : Route) → IsRoute h r → IsRoute h s → r ≡ s
route_of_one h r s p q = one_result (route_of h) r s p.0 q.0
