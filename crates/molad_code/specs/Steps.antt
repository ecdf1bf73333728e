-- What the steps of the code promise each other, and the crates that use them.
use Rattle.std.specs.Prelude.{◌≡◌, ℕ, ◌-◌, ◌/◌, ◌%◌, ◌≤◌, ◌<◌}
use Rattle.molad.specs.Units.{parts_in_day}
use Rattle.molad.specs.Years.{leap, months_before}
use Rattle.molad.specs.Molad.{molad_after, molad_day, molad_time}
use Rattle.molad_code.specs.declared.months.Months.{Months}
use Rattle.molad_code.specs.declared.parts.Molad.{Molad}

-- The months before year h, and the leap years about it.
abbrev pub IsMonths : ℕ → Months → Type 0
IsMonths h r = (r.months ≡ months_before h) × ((r.leap ≡ leap h) × ((r.after_leap ≡ leap (h - 1)) × (r.months ≤ 123700)))

-- The molad that so many months come before.
abbrev pub IsMolad : ℕ → Molad → Type 0
IsMolad months r =
    (r.day ≡ molad_after months / parts_in_day) × ((r.time ≡ molad_after months % parts_in_day) × ((r.day ≤ 4001400) × (r.time < parts_in_day)))

-- The molad of a month.
abbrev pub IsMoladOf : ℕ → ℕ → Molad → Type 0
IsMoladOf h code r = (r.day ≡ molad_day h code) × (r.time ≡ molad_time h code)
