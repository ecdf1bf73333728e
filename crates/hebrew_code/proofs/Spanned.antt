-- What the code knows of a year from its span.
use mathlib.Core.Path.{◌≡◌, sym}
use mathlib.Core.Bool.{Bool}
use Prim.Native.Nat.{ℕ}
use native.Mathlib.Omega.{arith}
use lib.Dec.{leb}
use Rattle.molad.specs.Years.{leap}
use Rattle.molad.specs.Molad.{no_month}
use Rattle.newyear_code.specs.declared.span.Span.{Span}
use Rattle.newyear.proofs.Lengths.{length_leap}

-- A code is a month of the year or not, by the year's length.
pub month_told : (code : ℕ) (s : Span) (told : Bool) → told ≡ no_month (leb 383 s.length) code → no_month (leap s.year) code ≡ told
month_told code s told t = let e = s.is_span in rw (e.days, length_leap s.year e.first (omega (arith, e.last))) at (sym t)
