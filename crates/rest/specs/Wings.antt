-- The wings, 1 and 2. Every question about rest days or stretches names one, and its table tells the rest days.
use Rattle.std.specs.Prelude.{◌≡◌, Bool, cond, List, ◌⊎◌, ℕ, eqb}
use Rattle.laws.specs.Runs.{outside}
use Rattle.rest.specs.Table.{rest_table, guest_table}

abbrev pub IsWing : ℕ → Type 0
IsWing wing = (wing ≡ 1) ⊎ (wing ≡ 2)

abbrev pub out_of_wings : ℕ → Bool
out_of_wings wing = outside 1 2 wing

-- A wing's table. It is asked of a wing alone; any other number has the guest wing's.
unfoldable pub table_of : ℕ → List ℕ
table_of wing = cond (eqb wing 1) rest_table guest_table

-- What is answered for a wing: by its table or, where it is neither 1 nor 2, a refusal, before all others.
abbrev pub of_wing : {A : Type 0} → ℕ → A → (List ℕ → A) → A
of_wing wing refused answer = cond (out_of_wings wing) refused (answer (table_of wing))
