-- A test that each row of a table passes.
use mathlib.Core.Path.{◌≡◌}
use mathlib.Core.Bool.{Bool, true}
use mathlib.Core.List.{List}
use Prim.Native.Nat.{ℕ, ◌<◌}
use lib.ListN.{length, get_or}
use Rattle.std.proofs.lemmas.List.Elements.{All-get_or, All-from_get_or}
use Rattle.laws.specs.Runs.{each_of}
use Rattle.laws.proofs.Tests.{each_at}

pub row_passes : (table : List ℕ) (test : ℕ → Bool) → each_of table test ≡ true → (i d : ℕ) → i < length table → test (get_or table i d) ≡ true
row_passes table test e i d h =
    let P : ℕ → Type 0 = λ row. test row ≡ true in
    All-get_or P table i d h (All-from_get_or P table 0 (each_at table test e))
