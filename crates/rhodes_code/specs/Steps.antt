-- What the code's route promises to whoever asks for it. What is believed of the route stands in Rhodes.
use Rattle.std.specs.Prelude.{◌≡◌, Bool, ℕ, ◌≤◌}
use Rattle.rhodes.specs.Rhodes.{place, since_leap, distance, molad_august, molad_part, noon_august, noon_part, weekday_of_august, late_by, delay_of, cause_by, rhodes_delay}
use Rattle.rhodes_code.specs.declared.steps.Late.{Late}
use Rattle.rhodes_code.specs.declared.steps.Route.{Route}

-- Rhodes' delay, with a bound, and the cause of the whole delay.
abbrev pub IsLate : Bool → ℕ → ℕ → ℕ → Late → Type 0
IsLate stepped n w f r = ((r.delay ≡ late_by n w f) × (r.delay ≤ 2)) × (r.cause ≡ cause_by stepped n w f)

-- Every step of a year, in order.
unfoldable pub route_of : ℕ → Route
route_of h =
    record {
      place = place h;
      since_leap = since_leap h;
      distance = distance h;
      molad_august = molad_august h;
      molad_part = molad_part h;
      august = noon_august h;
      part = noon_part h;
      weekday = weekday_of_august h (noon_august h);
      delay = delay_of h;
      cause = (rhodes_delay h).cause;
    }

-- These values, and bounds.
abbrev pub IsRoute : ℕ → Route → Type 0
IsRoute h r =
    (r ≡ route_of h) × ((r.molad_august ≤ r.august) × ((r.august ≤ 71) × (r.delay ≤ 2)))
