-- Each wing's table; and what holds of both tables holds of every wing's.
use mathlib.Core.Path.{◌≡◌}
use mathlib.Core.Bool.{Bool, true, false, cond}
use mathlib.Core.List.{List}
use Prim.Native.Nat.{ℕ}
use borrow.Author.Tests.{eq-eqb, ne_eqb}
use lib.Dec.{eqb}
use Rattle.rest.specs.Table.{rest_table, guest_table}
use Rattle.rest.specs.Wings.{table_of}

pub first_table : (wing : ℕ) → wing ≡ 1 → table_of wing ≡ rest_table
unfolding table_of
first_table wing e = rw (eq-eqb wing 1 e)

pub guest_table_lem : (wing : ℕ) → ¬ (wing ≡ 1) → table_of wing ≡ guest_table
unfolding table_of
guest_table_lem wing e = rw (ne_eqb wing 1 e)

pub of_both : (P : List ℕ → Type 0) → P rest_table → P guest_table → (wing : ℕ) → P (table_of wing)
unfolding table_of
of_both P one guest wing = go (eqb wing 1)
  where
    go : (first : Bool) → P (cond first rest_table guest_table)
    go true = one
    go false = guest
