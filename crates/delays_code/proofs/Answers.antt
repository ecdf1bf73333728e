-- The contract of the step leaves one result.
use mathlib.Core.Path.{◌≡◌, sym, ◌∙◌}
use mathlib.Core.Bool.{Bool}
use Prim.Native.Nat.{ℕ}
use Rattle.delays_code.specs.Steps.{IsDelay}
use Rattle.delays.specs.declared.Delayed.{Delayed}

pub delay_one : (w t : ℕ) (isLeap afterLeap : Bool) (r s : Delayed) → IsDelay w t isLeap afterLeap r → IsDelay w t isLeap afterLeap s → r ≡ s
delay_one w t isLeap afterLeap r s p q = p.0 ∙ sym q.0
