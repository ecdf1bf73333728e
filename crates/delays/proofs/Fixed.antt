-- The words of this crate are these numbers, worked out for both truth values.
use mathlib.Core.Path.{refl}
use mathlib.Core.Bool.{Bool, true, false}
use Rattle.delays.specs.Delays.{delayed, tuesday_rule, monday_rule, from_noon, closed}
use Rattle.delays.specs.Fixed.{Gives, WordsFixed}

on_monday : (b : Bool) → Gives 2 16788 b true 0 0 × Gives 2 16789 b true 1 5 × Gives 2 19439 b true 1 5 × Gives 2 19440 b true 1 1
unfolding delayed tuesday_rule monday_rule from_noon closed
on_monday true = (refl, refl, refl, refl)
on_monday false = (refl, refl, refl, refl)

on_tuesday : (b : Bool) → Gives 3 9923 false b 0 0 × Gives 3 9924 false b 2 4 × Gives 3 19439 false b 2 4 × Gives 3 19440 false b 2 3
unfolding delayed tuesday_rule monday_rule from_noon closed
on_tuesday true = (refl, refl, refl, refl)
on_tuesday false = (refl, refl, refl, refl)

at_noon : (b : Bool) → Gives 2 19439 b false 0 0 × Gives 2 19440 b false 1 1 × Gives 1 19439 b false 1 2 × Gives 1 19440 b false 1 1
unfolding delayed tuesday_rule monday_rule from_noon closed
at_noon true = (refl, refl, refl, refl)
at_noon false = (refl, refl, refl, refl)

pub words_fixed : WordsFixed
words_fixed = record { monday = on_monday; tuesday = on_tuesday; noon = at_noon }
