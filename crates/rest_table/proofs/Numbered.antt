-- The number of a wing names one.
use mathlib.Core.Path.{◌≡◌, refl}
use mathlib.Core.Bool.{false}
use Prim.Native.Nat.{ℕ}
use Rattle.rest.specs.Wings.{out_of_wings}
use Rattle.rest_table.specs.Wing.{number_of}
use Rattle.rest_table.specs.declared.wings.Wing.{Wing}
use Rattle.rest_table.specs.declared.wings.Wing.TheVariants.{Hall, Guest}

numbered : (w : Wing) → out_of_wings (number_of w) ≡ false
numbered Hall = refl
numbered Guest = refl

pub known_wing : (w : Wing) (wing : ℕ) → number_of w ≡ wing → out_of_wings wing ≡ false
known_wing w wing e = rw (← e) (numbered w)
