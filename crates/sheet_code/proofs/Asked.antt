-- What is asked before a sheet is written: the wing, and then the years.
use mathlib.Core.Path.{◌≡◌, refl, sym}
use mathlib.Core.Bool.{Bool, true, false, ◌||◌, cond}
use mathlib.Core.List.{List}
use Prim.Native.Nat.{ℕ}
use Rattle.laws.specs.Runs.{outside}
use Rattle.lists.specs.Lists.{no_list}
use Rattle.refusals.specs.Refusals.{number_of}
use Rattle.refusals.specs.declared.Refusal.{Refusal}
use Rattle.refusals.specs.declared.Refusal.TheVariants.{BadYear, BadYearCount}
use Rattle.rest.specs.Wings.{out_of_wings}
use Rattle.rest_table.specs.Wing.{number_of as wing_number}
use Rattle.rest_table.specs.declared.wings.Wing.{Wing}
use Rattle.sheet.specs.Sheet.{most_years}
use Rattle.sheet.specs.Answers.{ends_outside, sheet_answer, sheet_buffer, wing_sheet, wing_sheet_buffer}
use Rattle.sheet_code.specs.Steps.{written_answer, written_buffer}
use Rattle.rest_table.proofs.Numbered.{known_wing}
use Rattle.sheet_years.specs.Asked.{Holds, Refused}
use Rattle.sheet_years.specs.declared.years.Years.{Years}

refused_by :
    {A : Type 0} (answer : ℕ → A) (given : A) (count ends : Bool) (why : Refusal) → count || ends ≡ true → why ≡ cond count BadYearCount BadYear →
    answer (number_of why) ≡ cond count (answer 11) (cond ends (answer 1) given)
refused_by answer given true ends why p e = rw e
refused_by answer given false true why p e = rw e
refused_by answer given false false why p e = cc

passed_by : {A : Type 0} (first second given : A) (count ends : Bool) → count || ends ≡ false → cond count first (cond ends second given) ≡ given
passed_by first second given false false p = refl
passed_by first second given false true p = cc
passed_by first second given true ends p = cc

module _ (w : Wing) (wing h n : ℕ) (buffer : List ℕ) (named : wing_number w ≡ wing) where
  wing_good : out_of_wings wing ≡ false
  wing_good = known_wing w wing named

  module _ (why : Refusal) (r : Refused h n why) where
    pub refused_answer : no_list (number_of why) ≡ wing_sheet wing h n buffer
    unfolding sheet_answer
    refused_answer = rw wing_good (refused_by no_list (written_answer wing h n buffer) (outside 1 most_years n) (ends_outside h n) why r.bad r.named)

    pub refused_buffer : buffer ≡ wing_sheet_buffer wing h n buffer
    unfolding sheet_buffer
    refused_buffer = rw wing_good (refused_by (λ _. buffer) (written_buffer wing h n buffer) (outside 1 most_years n) (ends_outside h n) why r.bad r.named)

  module _ (years : Years) (y : Holds h n years) where
    pub given_answer : written_answer (wing_number w) years.first years.count buffer ≡ wing_sheet wing h n buffer
    unfolding sheet_answer
    given_answer = rw (wing_good, named, y.first, y.count) (sym (passed_by (no_list 11) (no_list 1) (written_answer wing h n buffer) (outside 1 most_years n) (ends_outside h n) y.good))

    pub given_buffer : written_buffer (wing_number w) years.first years.count buffer ≡ wing_sheet_buffer wing h n buffer
    unfolding sheet_buffer
    given_buffer = rw (wing_good, named, y.first, y.count) (sym (passed_by buffer buffer (written_buffer wing h n buffer) (outside 1 most_years n) (ends_outside h n) y.good))
