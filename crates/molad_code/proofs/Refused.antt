-- A month that is asked for and refused: what is answered with the number of the first refusal that applies.
use mathlib.Core.Path.{◌≡◌}
use mathlib.Core.Bool.{Bool, true, false, ◌||◌, cond}
use Prim.Native.Nat.{ℕ}
use Rattle.refusals.specs.Refusals.{number_of}
use Rattle.refusals.specs.declared.Refusal.{Refusal}
use Rattle.refusals.specs.declared.Refusal.TheVariants.{BadYear, BadMonth}

pub month_refused :
    {A : Type 0} (answer : ℕ → A) (told : A) (noYear noMonth : Bool) (why : Refusal) →
    noYear || noMonth ≡ true → why ≡ cond noYear BadYear BadMonth →
    answer (number_of why) ≡ cond noYear (answer 1) (cond noMonth (answer 2) told)
month_refused answer told true noMonth why e w = rw w
month_refused answer told false true why e w = rw w
month_refused answer told false false why e w = cc
