-- How many bytes a header, an index entry and a row have.
use mathlib.Core.Path.{◌≡◌, refl}
use Prim.Native.Nat.{ℕ}
use lib.ListN.{length}
use Rattle.layout.specs.Layout.{little_endian, header_bytes, entry_bytes, row_bytes}

pub header_long : (years first rows : ℕ) → length (header_bytes years first rows) ≡ 16
unfolding header_bytes little_endian
header_long years first rows = refl

pub entry_long : (offset rows days : ℕ) → length (entry_bytes offset rows days) ≡ 8
unfolding entry_bytes little_endian
entry_long offset rows days = refl

pub row_long : (wing first days : ℕ) → length (row_bytes wing first days) ≡ 6
unfolding row_bytes little_endian
row_long wing first days = refl
