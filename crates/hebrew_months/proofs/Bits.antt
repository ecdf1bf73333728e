-- A test as a number.
use mir.Val.{bool_byte}
use mathlib.Core.Path.{◌≡◌, refl}
use mathlib.Core.Bool.{Bool, true, false, cond}

pub bit : (b : Bool) → bool_byte b ≡ cond b 1 0
bit true = refl
bit false = refl
