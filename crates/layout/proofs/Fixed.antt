-- The words of this crate are these numbers.
use mathlib.Core.Path.{refl}
use mathlib.Core.List.{[], ◌∷◌}
use Prim.Native.Nat.{zero, suc}
use native.Mathlib.Omega.{arith}
use Rattle.layout.specs.Layout.{little_endian, header_bytes, entry_bytes, row_bytes}
use Rattle.layout.specs.Reading.{Bytes, worth, number_at}
use Rattle.layout.specs.Fixed.{WordsFixed}

two_bytes : Bytes (0 ∷ 255 ∷ [])
two_bytes zero p = omega arith
two_bytes (suc zero) p = omega arith
two_bytes (suc (suc k)) p = absurd (omega arith)

pub words_fixed : WordsFixed
unfolding header_bytes entry_bytes row_bytes little_endian number_at worth
words_fixed =
    record {
      header = refl;
      entry = refl;
      row = refl;
      numbers = (refl, refl, refl, refl, refl);
      bytes = (two_bytes, λ b. omega (arith, b 1 (omega arith)));
    }
