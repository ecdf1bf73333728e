-- Units, from document 01: 1 hour = 1,080 parts; 1 day = 25,920 parts; 1 month = 29 days 12 hours 793 parts.
-- Hours count from 18:00, when the day begins: 0 to 23.
use Rattle.std.specs.Prelude.{ℕ, ◌+◌, ◌*◌}

abbrev pub parts_in_hour : ℕ
parts_in_hour = 1080

abbrev pub parts_in_day : ℕ
parts_in_day = 24 * parts_in_hour

-- The parts of so many hours and parts.
abbrev pub time : ℕ → ℕ → ℕ
time hours parts = hours * parts_in_hour + parts

abbrev pub parts_in_month : ℕ
parts_in_month = 29 * parts_in_day + time 12 793
