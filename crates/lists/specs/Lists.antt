-- What a call answers that writes a year's list into lent numbers, and what it makes of them.
use Rattle.std.specs.Prelude.{cond, List, [], ◌∷◌, ℕ, ◌<◌, ltb, length}
use Rattle.laws.specs.Buffer.{overwrite}
use Rattle.molad.specs.Years.{out_of_years}
use Rattle.lists.specs.declared.ListAnswer.{ListAnswer}

abbrev pub no_list : ℕ → ListAnswer
no_list n = record { refusal = n; count = 0 }

-- A list for a year into a lent buffer. Refusal 1: the year lies outside 1..9999. 10: the buffer is too short, and the
-- answer tells how many entries are wanted. Else it tells the count.
unfoldable pub list_answer : ℕ → List ℕ → List ℕ → ℕ → ListAnswer
list_answer h buffer list count =
    cond (out_of_years h) (no_list 1)
    (cond (ltb (length buffer) (length list)) (record { refusal = 10; count = length list })
    (record { refusal = 0; count = count }))

-- A refusal leaves the buffer as it was.
unfoldable pub list_buffer : ℕ → List ℕ → List ℕ → List ℕ
list_buffer h buffer list = cond (out_of_years h) buffer (cond (ltb (length buffer) (length list)) buffer (overwrite buffer list))

-- The days of a table's rows, in the table's order; `day` tells the day of a row.
unfoldable pub days_of : (ℕ → ℕ) → List ℕ → List ℕ
days_of day [] = []
days_of day (r ∷ table) = day r ∷ days_of day table

-- Each day comes after the one before it.
abbrev pub DaysRise : List ℕ → Type 0
DaysRise [] = Unit {0}
DaysRise (j ∷ []) = Unit {0}
DaysRise (j ∷ k ∷ list) = (j < k) × DaysRise (k ∷ list)
