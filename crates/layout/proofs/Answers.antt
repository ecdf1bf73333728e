-- Each step that stores into lent bytes leaves one state of them, and each that reads them one number.
use mathlib.Core.Path.{◌≡◌}
use mathlib.Core.List.{List}
use Prim.Native.Nat.{ℕ}
use lib.Seq.{sets}
use Rattle.laws.proofs.One.{one_result}
use Rattle.layout.specs.Layout.{header_bytes, entry_bytes, row_bytes}
use Rattle.layout.specs.Reading.{number_at}

module _ (buffer r s : List ℕ) where
  pub put_header_one : (years first rows : ℕ) → r ≡ sets buffer 0 (header_bytes years first rows) → s ≡ sets buffer 0 (header_bytes years first rows) → r ≡ s
  put_header_one years first rows = one_result (sets buffer 0 (header_bytes years first rows)) r s

  pub put_entry_one : (at offset rows days : ℕ) → r ≡ sets buffer at (entry_bytes offset rows days) → s ≡ sets buffer at (entry_bytes offset rows days) → r ≡ s
  put_entry_one at offset rows days = one_result (sets buffer at (entry_bytes offset rows days)) r s

  pub put_row_one : (at wing first days : ℕ) → r ≡ sets buffer at (row_bytes wing first days) → s ≡ sets buffer at (row_bytes wing first days) → r ≡ s
  put_row_one at wing first days = one_result (sets buffer at (row_bytes wing first days)) r s

pub number_at_one : (bytes : List ℕ) (at n r s : ℕ) → r ≡ number_at bytes at n → s ≡ number_at bytes at n → r ≡ s
number_at_one bytes at n = one_result (number_at bytes at n)
