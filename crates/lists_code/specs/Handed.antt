-- How a list of days is handed out, whatever tells the day of a row.
use Rattle.std.specs.Prelude.{◌≡◌, false, List, ℕ, ◌<◌, length, get_or}
use Rattle.molad.specs.Years.{out_of_years}
use Rattle.lists.specs.Lists.{list_answer, list_buffer, days_of}
use Rattle.lists.specs.declared.ListAnswer.{ListAnswer}

-- `day` tells the day of each row of the table. `Told row n` says that n may be what was told of the row.
abbrev pub TellsEach : (ℕ → ℕ → Type 0) → List ℕ → (ℕ → ℕ) → Type 0
TellsEach Told table day = (i n : ℕ) → i < length table → Told (get_or table i 0) n → n ≡ day (get_or table i 0)

-- The days of the table are handed out, as of any year that is covered.
abbrev pub HandsOut : (ℕ → ℕ → Type 0) → List ℕ → List ℕ → List ℕ → ListAnswer → Type 0
HandsOut Told table before after answer =
    (day : ℕ → ℕ) → TellsEach Told table day → (h : ℕ) → out_of_years h ≡ false →
    (answer ≡ list_answer h before (days_of day table) (length table)) × (after ≡ list_buffer h before (days_of day table))
