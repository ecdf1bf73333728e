-- What `stretch` answers. First by a table; then for the wing that is named.
use Rattle.std.specs.Prelude.{cond, List, ℕ, ◌-◌, ltb, pos}
use Rattle.std.proofs.Math.IntN.{sub_ℕ}
use Rattle.days.specs.Range.{last_day, out_of_range}
use Rattle.rest.specs.Wings.{of_wing}
use Rattle.stretch.specs.Stretches.{next_rest, stretch_first, stretch_past}
use Rattle.stretch.specs.declared.StretchAnswer.{StretchAnswer}

abbrev pub no_stretch : ℕ → StretchAnswer
no_stretch n = record { refusal = n; first = 0; length = 0; days_left = pos 0 }

-- Days left = first day minus the day asked, with its sign.
abbrev pub stretch_on : ℕ → ℕ → ℕ → StretchAnswer
stretch_on j first past = record { refusal = 0; first = first; length = past - first; days_left = sub_ℕ first j }

-- Refusal 4: the day number lies outside the range. 9: no stretch in range ends on or after the day.
unfoldable pub stretch_answer : List ℕ → ℕ → StretchAnswer
stretch_answer table j =
    cond (out_of_range j) (no_stretch 4)
    (cond (ltb last_day (next_rest table j)) (no_stretch 9)
    (stretch_on j (stretch_first table j) (stretch_past table j)))

-- Refusal 15: the wing is neither 1 nor 2.
abbrev pub wing_stretch : ℕ → ℕ → StretchAnswer
wing_stretch wing j = of_wing wing (no_stretch 15) (λ table. stretch_answer table j)
