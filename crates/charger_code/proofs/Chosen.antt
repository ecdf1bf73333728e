-- What is answered for a wing, a day in range and good figures, by the stretches that are found.
use Rattle.std.proofs.Common.{arith, ◌≡◌, true, false, refl, ◌∙◌, ℕ, ◌+◌, ◌≤◌, ◌<◌}
use borrow.Author.Tests.{le-leb, lt-leb}
use Rattle.laws.proofs.Tests.{within}
use Rattle.days.specs.Range.{first_day, last_day, InRange, out_of_range}
use Rattle.rest.specs.Wings.{table_of}
use Rattle.rest.proofs.Passed.{tables_pass}
use Rattle.rest_table.specs.Wing.{number_of}
use Rattle.rest_table.specs.declared.wings.Wing.{Wing}
use Rattle.stretch.specs.Answers.{no_stretch, stretch_answer, wing_stretch}
use Rattle.stretch.specs.declared.StretchAnswer.{StretchAnswer}
use Rattle.stretch.proofs.Answers.{stretch_told}
use Rattle.stretch_code.specs.Found.{told}
use Rattle.stretch_code.proofs.Named.{named, by_table}
use Rattle.stretch_code.specs.declared.found.NextStretch.{NextStretch}
use Rattle.charger.specs.Charging.{bad_figures, earliest_day, chosen}
use Rattle.charger.specs.Answers.{no_start, planned, charge_answer}
use Rattle.charger.specs.declared.Figures.{Figures}
use Rattle.charger.proofs.Chosen.{in_bounds, earliest_by}

module _ (wing : Wing) where
  abbrev w : ℕ
  w = number_of wing

  module _ (j : ℕ) (x : Figures) (i : out_of_range j ≡ false) (g : bad_figures x ≡ false) where
    passed : charge_answer w j x ≡ planned (earliest_day w j) (chosen w j) x
    passed = rw (named wing, i, g)

    pub none_ahead : no_stretch 9 ≡ stretch_answer (table_of w) j → charge_answer w j x ≡ no_start 9
    unfolding planned
    none_ahead e =
        let f = e ∙ by_table wing j in
        let d : earliest_day w j ≡ j = earliest_by w j false (rw (← f)) in
        passed ∙ rw (d, ← f)

    module _ (s : NextStretch) (e : told s ≡ stretch_answer (table_of w) j) where
      f : told s ≡ wing_stretch w j
      f = e ∙ by_table wing j

      pub later : j < s.first → charge_answer w j x ≡ planned j (told s) x
      later l =
          let d : earliest_day w j ≡ j = earliest_by w j false (rw (← f, lt-leb _ _ l)) in
          passed ∙ rw (d, ← f)

      -- The day after it is in range.
      pub past_in_range : InRange (s.first + s.length)
      past_in_range =
          let b = rw (← f) at (in_bounds w j) in
          let t = rw (← e) at (stretch_told (table_of w) (tables_pass w) j) in
          let o : j < s.first + s.length = (t.values (t.done.0 refl)).0.not_over in
          let r = within first_day last_day j i in
          (omega arith, b.0)

      pub after : s.first ≤ j → (r : StretchAnswer) → r ≡ stretch_answer (table_of w) (s.first + s.length) → charge_answer w j x ≡ planned (s.first + s.length) r x
      after l r k =
          let d : earliest_day w j ≡ s.first + s.length = earliest_by w j true (rw (← f, le-leb _ _ l)) ∙ rw (← f) in
          passed ∙ rw (d, ← (k ∙ by_table wing (s.first + s.length)))

      pub none_after : s.first ≤ j → no_stretch 9 ≡ stretch_answer (table_of w) (s.first + s.length) → charge_answer w j x ≡ no_start 9
      unfolding planned
      none_after l k = after l (no_stretch 9) k
