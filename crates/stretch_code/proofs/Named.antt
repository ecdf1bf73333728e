-- A wing that has a name is 1 or 2, and its stretch is that by its table.
use Rattle.std.proofs.Common.{◌≡◌, false, refl, ℕ}
use Rattle.rest.specs.Wings.{table_of, out_of_wings}
use Rattle.rest_table.specs.Wing.{number_of}
use Rattle.rest_table.specs.declared.wings.Wing.{Wing}
use Rattle.rest_table.specs.declared.wings.Wing.TheVariants.{Hall, Guest}
use Rattle.stretch.specs.Answers.{stretch_answer, wing_stretch}

pub named : (wing : Wing) → out_of_wings (number_of wing) ≡ false
named Hall = refl
named Guest = refl

pub by_table : (wing : Wing) (j : ℕ) → stretch_answer (table_of (number_of wing)) j ≡ wing_stretch (number_of wing) j
by_table wing j = rw (named wing)
