-- What the step of the code promises to whoever asks it. What is believed of the delays stands in Delays.
use Rattle.std.specs.Prelude.{◌≡◌, Bool, ℕ, ◌≤◌}
use Rattle.delays.specs.Delays.{delayed}
use Rattle.delays.specs.declared.Delayed.{Delayed}

-- The delay of a molad on weekday w at time t, and its cause.
abbrev pub IsDelay : ℕ → ℕ → Bool → Bool → Delayed → Type 0
IsDelay w t isLeap afterLeap r = (r ≡ delayed w t isLeap afterLeap) × (r.delay ≤ 2)
