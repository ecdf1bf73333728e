-- What `rest_days` answers, and what it makes of a lent buffer. First by a table; then for the wing that is named.
use Rattle.std.specs.Prelude.{List, ℕ, length}
use Rattle.lists.specs.Lists.{no_list, list_answer, list_buffer}
use Rattle.lists.specs.declared.ListAnswer.{ListAnswer}
use Rattle.rest.specs.Table.{rest_days}
use Rattle.rest.specs.Wings.{of_wing}

-- One entry for each rest day.
abbrev pub rest_days_answer : List ℕ → ℕ → List ℕ → ListAnswer
rest_days_answer table h buffer = list_answer h buffer (rest_days table h) (length (rest_days table h))

abbrev pub rest_days_buffer : List ℕ → ℕ → List ℕ → List ℕ
rest_days_buffer table h buffer = list_buffer h buffer (rest_days table h)

-- Refusal 15: the wing is neither 1 nor 2.
abbrev pub wing_rest_days : ℕ → ℕ → List ℕ → ListAnswer
wing_rest_days wing h buffer = of_wing wing (no_list 15) (λ table. rest_days_answer table h buffer)

abbrev pub wing_rest_days_buffer : ℕ → ℕ → List ℕ → List ℕ
wing_rest_days_buffer wing h buffer = of_wing wing buffer (λ table. rest_days_buffer table h buffer)
