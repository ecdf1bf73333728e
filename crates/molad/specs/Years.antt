-- Leap years, and the months before a year: 13 for each leap year and 12 for each other year, added up.
use Rattle.std.specs.Prelude.{Bool, cond, [], ◌∷◌, ℕ, zero, suc, ◌+◌, ◌-◌, ◌%◌, ◌≤◌}
use Rattle.laws.specs.Runs.{elem, outside}

-- The Hebrew years covered are 1 to 9999; New Year, by either route, also takes 10,000.
abbrev pub last_year : ℕ
last_year = 9999

abbrev pub InYears : ℕ → Type 0
InYears h = (1 ≤ h) × (h ≤ last_year)

abbrev pub out_of_years : ℕ → Bool
out_of_years h = outside 1 last_year h

abbrev pub last_new_year : ℕ
last_new_year = 10000

abbrev pub InNewYears : ℕ → Type 0
InNewYears h = (1 ≤ h) × (h ≤ last_new_year)

abbrev pub out_of_new_years : ℕ → Bool
out_of_new_years h = outside 1 last_new_year h

-- A year is leap when H mod 19 is one of these.
unfoldable pub leap : ℕ → Bool
leap h = elem (h % 19) (3 ∷ 6 ∷ 8 ∷ 11 ∷ 14 ∷ 17 ∷ 0 ∷ [])

unfoldable pub months_in : ℕ → ℕ
months_in h = cond (leap h) 13 12

-- The months of the years 1 to k, added up.
unfoldable pub months_to : ℕ → ℕ
months_to zero = 0
months_to (suc k) = months_to k + months_in (suc k)

-- The months before Tishri of year h: those of the years 1 to h − 1.
unfoldable pub months_before : ℕ → ℕ
months_before h = months_to (h - 1)
