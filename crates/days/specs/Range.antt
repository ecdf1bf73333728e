-- Days are Julian Day Numbers, J. A Hebrew day has the J of the civil day that holds its daylight; it begins at 18:00
-- the evening before. The range (document 01): 347,998, which is 1 Tishri 1, to 4,000,075, which is 29 Elul 9999.
use Rattle.std.specs.Prelude.{Bool, ℕ, ◌≤◌}
use Rattle.laws.specs.Runs.{outside}

abbrev pub first_day : ℕ
first_day = 347998

abbrev pub last_day : ℕ
last_day = 4000075

abbrev pub InRange : ℕ → Type 0
InRange j = (first_day ≤ j) × (j ≤ last_day)

abbrev pub out_of_range : ℕ → Bool
out_of_range j = outside first_day last_day j
