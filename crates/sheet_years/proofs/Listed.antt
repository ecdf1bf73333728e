-- A year's list, worked out over the start of a buffer, is what stands there.
use mathlib.Core.Path.{◌≡◌}
use mathlib.Core.List.{List}
use Prim.Native.Nat.{ℕ}
use lib.ListN.{length, take}
use lib.Seq.{take-append_seam}
use Rattle.laws.specs.Buffer.{overwrite}

pub listed : (list before after : List ℕ) (n : ℕ) → n ≡ length list → after ≡ overwrite before list → take n after ≡ list
unfolding overwrite
listed list before after n e q = rw (q, e) (take-append_seam list _)
