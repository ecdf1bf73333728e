-- What `fasts` answers, and what it makes of a lent buffer.
use Rattle.std.specs.Prelude.{List, ℕ}
use Rattle.lists.specs.Lists.{list_answer, list_buffer}
use Rattle.lists.specs.declared.ListAnswer.{ListAnswer}
use Rattle.fasts.specs.Fasts.{fast_table, fast_days}

-- Refusal 1: the year lies outside 1..9999. 10: the buffer has no room for five.
abbrev pub fasts_answer : ℕ → List ℕ → ListAnswer
fasts_answer h buffer = list_answer h buffer (fast_days fast_table h) 5

abbrev pub fasts_buffer : ℕ → List ℕ → List ℕ
fasts_buffer h buffer = list_buffer h buffer (fast_days fast_table h)
