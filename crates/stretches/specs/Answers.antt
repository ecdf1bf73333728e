-- What `stretches` answers, and what it makes of a lent buffer. First by a table; then for the wing that is named.
use Rattle.std.specs.Prelude.{List, ℕ, ◌/◌, length}
use Rattle.lists.specs.Lists.{no_list, list_answer, list_buffer}
use Rattle.lists.specs.declared.ListAnswer.{ListAnswer}
use Rattle.rest.specs.Wings.{of_wing}
use Rattle.stretches.specs.Stretches.{stretch_rows}

-- Two entries for each stretch.
abbrev pub stretches_answer : List ℕ → ℕ → List ℕ → ListAnswer
stretches_answer table h buffer = list_answer h buffer (stretch_rows table h) (length (stretch_rows table h) / 2)

abbrev pub stretches_buffer : List ℕ → ℕ → List ℕ → List ℕ
stretches_buffer table h buffer = list_buffer h buffer (stretch_rows table h)

-- Refusal 15: the wing is neither 1 nor 2.
abbrev pub wing_stretches : ℕ → ℕ → List ℕ → ListAnswer
wing_stretches wing h buffer = of_wing wing (no_list 15) (λ table. stretches_answer table h buffer)

abbrev pub wing_stretches_buffer : ℕ → ℕ → List ℕ → List ℕ
wing_stretches_buffer wing h buffer = of_wing wing buffer (λ table. stretches_buffer table h buffer)
