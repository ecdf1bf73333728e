-- A walker keeps the lent sheet and its place.
use Rattle.std.specs.Prelude.{◌≡◌, cond, List, ℕ, zero, suc, ◌-◌, eqb, length, Option, Some, None}
use Rattle.std.specs.Borrow.{Bor}
use Rattle.loaded.specs.Walk.{row_given, row_after, begun_at}
use Rattle.loaded.specs.declared.Row.{Row}
use Rattle.loaded_code.specs.declared.walk.Walker.{Walker}

abbrev pub begun_on : ℕ → Bor (List ℕ) → Walker
begun_on wing sheet = record { sheet = sheet; row = (begun_at wing sheet.now).row }

abbrev pub moved_on : Walker → Walker
moved_on w = record { sheet = w.sheet; row = row_after w.sheet.now w.row }

-- The walker itself after n calls.
unfoldable pub after_calls : Walker → ℕ → Walker
after_calls walker zero = walker
after_calls walker (suc n) = moved_on (after_calls walker n)

-- A row, or none where there are no more.
abbrev pub if_more : Row → Option Row
if_more row = cond (eqb row.more 0) None (Some row)

-- What a call of `next` hands out, and the walker after it.
abbrev pub HandsOut : Walker → Option Row → Walker → Type 0
HandsOut walker given after = (given ≡ if_more (row_given walker.sheet.now walker.row)) × (after ≡ moved_on walker)

-- No more rows are handed out than there are bytes from the row's number on.
abbrev pub bytes_ahead : Walker → ℕ
bytes_ahead w = length w.sheet.now - w.row
