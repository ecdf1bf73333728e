-- The rest days of one year, counted from 0 at New Year, and a search through them by their dates.
use Rattle.std.specs.Prelude.{◌≡◌, Bool, ℕ, ◌<◌}
use Rattle.hebrew.specs.Steps.{year_date}
use Rattle.hebrew.specs.declared.YearDate.{YearDate}
use Rattle.rest.specs.Wings.{table_of}
use Rattle.rest.specs.Steps.{rest_at}
use Rattle.rest_table.specs.Wing.{number_of}
use Rattle.stretch_code.specs.declared.year_days.YearDays.{YearDays}

abbrev pub rests : YearDays → ℕ → Bool
rests year = rest_at (table_of (number_of year.wing)) year.weekday year.length

-- Of a date of a year of this length the test may be asked.
abbrev pub MayAsk : ℕ → (YearDate → Type 0) → Type 0
MayAsk length pre = (k : ℕ) → k < length → pre (year_date length k)

-- The test, asked of the date of day k, tells `wanted k`.
abbrev pub Tells : ℕ → (YearDate → Bool → Type 0) → (ℕ → Bool) → Type 0
Tells length post wanted = (k : ℕ) (answer : Bool) → k < length → post (year_date length k) answer → answer ≡ wanted k
