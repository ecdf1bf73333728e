-- The part of a sheet that is shown, which is empty where there are no rows, and the refusal number beside it.
use Rattle.std.specs.Prelude.{List, ℕ, Result, Ok, Err}
use Rattle.std.specs.Borrow.{Bor}
use Rattle.refusals.specs.Refusals.{number_of}
use Rattle.loaded_code.specs.declared.years.NoRows.{NoRows}

abbrev pub shown : Result (Bor (List ℕ)) NoRows → Bor (List ℕ)
shown (Ok part) = part
shown (Err none) = none.part

abbrev pub refusal_told : Result (Bor (List ℕ)) NoRows → ℕ
refusal_told (Ok _) = 0
refusal_told (Err none) = number_of none.why
