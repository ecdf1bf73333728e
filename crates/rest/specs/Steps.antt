-- How the code works: on the days of one year of a given length, by how many days after New Year they come. New Year
-- falls on weekday w, so that day x is a Saturday where 7 divides w + x. What is believed stands in Table, and of a list
-- in Answers; that these steps come to the same is proved.
use Rattle.std.specs.Prelude.{Bool, ◌||◌, cond, List, ℕ, ◌+◌, ◌%◌, eqb}
use Rattle.laws.specs.Runs.{elem}
use Rattle.molad.specs.Years.{out_of_years}
use Rattle.hebrew.specs.Rows.{row}
use Rattle.hebrew.specs.Steps.{year_date}
use Rattle.rest.specs.Wings.{out_of_wings}
use Rattle.hebrew.specs.declared.YearDate.{YearDate}

-- A date of the year is a Saturday, or a row of the table.
abbrev pub rest_on : List ℕ → ℕ → YearDate → Bool
rest_on table w date = eqb ((w + date.after) % 7) 0 || elem (row date.month date.day) table

unfoldable pub rest_at : List ℕ → ℕ → ℕ → ℕ → Bool
rest_at table w len x = rest_on table w (year_date len x)

-- What refuses a wing's list of a year before its buffer is looked at; 0 where nothing does.
unfoldable pub list_refusal : ℕ → ℕ → ℕ
list_refusal wing h = cond (out_of_wings wing) 15 (cond (out_of_years h) 1 0)
