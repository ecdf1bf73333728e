-- What `molad` promises: the day, the hour of 0 to 23 and the part of 0 to 1,079 at which the molad falls. Counted together
-- they are the molad's parts, from the evening on which day number 0 begins.
use Rattle.std.specs.Prelude.{◌≡◌, [], ◌∷◌, ℕ, ◌+◌, ◌*◌, ◌/◌, ◌%◌, ◌≤◌}
use Rattle.laws.specs.Promise.{◌else◌, Promised}
use Rattle.molad.specs.Years.{InYears, leap}
use Rattle.molad.specs.Molad.{IsMonth, molad_parts, molad_day, molad_time}
use Rattle.molad.specs.declared.MoladAnswer.{MoladAnswer}

abbrev pub PromisedMolad : ℕ → ℕ → MoladAnswer → Type 0
PromisedMolad h code =
    Promised (λ (r : MoladAnswer). r.refusal) (InYears h else 1 ∷ IsMonth (leap h) code else 2 ∷ [])
    (λ r.
    ((r.day ≡ molad_day h code) × ((r.hour ≡ molad_time h code / 1080) × (r.part ≡ molad_time h code % 1080)))
    × (((r.hour ≤ 23) × (r.part ≤ 1079)) × (25920 * r.day + (1080 * r.hour + r.part) ≡ molad_parts h code)))
    (λ n r. (r.day ≡ 0) × ((r.hour ≡ 0) × (r.part ≡ 0)))
