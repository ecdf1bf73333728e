-- What a walker does, and that the contracts of `begin` and `next` leave one walker.
use mathlib.Core.Path.{◌≡◌, refl, sym, ◌∙◌}
use mathlib.Core.Bool.{Bool, true, false}
use mathlib.Core.List.{List}
use Prim.Native.Nat.{ℕ, zero, suc, ◌+◌, ◌<◌}
use native.Mathlib.Omega.{arith}
use lib.ListN.{length}
use denote.Ref.{Bor}
use Rattle.std.specs.Prelude.{Option}
use Rattle.laws.proofs.One.{one_result}
use Rattle.loaded.specs.Walk.{has_row, row_given, row_after, begun_at}
use Rattle.loaded.proofs.Walks.{row_there, step_of}
use Rattle.loaded.specs.Promises.{row_after_calls}
use Rattle.loaded.specs.declared.Row.{Row}
use Rattle.loaded_code.specs.Walker.{begun_on, moved_on, after_calls, HandsOut}
use Rattle.loaded_code.specs.declared.walk.Walker.{Walker}

-- The walker that `begin` makes keeps its sheet, and is after each call at the row at which the walk is.
pub walker_after :
    (wing : ℕ) (sheet : Bor (List ℕ)) (n : ℕ) →
    after_calls (begun_on wing sheet) n ≡ record { sheet = sheet; row = row_after_calls sheet.now (begun_at wing sheet.now).row n }
unfolding after_calls row_after_calls
walker_after wing sheet zero = refl
walker_after wing sheet (suc n) = rw (walker_after wing sheet n)

-- One walker that is begun, and one that has moved on.
pub begin_one : (wing : ℕ) (sheet : Bor (List ℕ)) (r s : Walker) → r ≡ begun_on wing sheet → s ≡ begun_on wing sheet → r ≡ s
begin_one wing sheet = one_result (begun_on wing sheet)

pub moved_one : (walker r s : Walker) → r ≡ moved_on walker → s ≡ moved_on walker → r ≡ s
moved_one walker = one_result (moved_on walker)

-- One item that is handed out.
pub next_one : (walker v w : Walker) (r s : Option Row) → HandsOut walker r v → HandsOut walker s w → (r ≡ s) × (v ≡ w)
next_one walker v w r s p q = (p.0 ∙ sym q.0, p.1 ∙ sym q.1)

-- A row that is handed out has its bytes ahead, and the walker goes one on.
pub goes_on : (bytes : List ℕ) (k : ℕ) → ((row_given bytes k).more ≡ 0 → ⊥) → (k < length bytes) × (row_after bytes k ≡ k + 1)
unfolding row_given
goes_on bytes k u = go (has_row bytes k) refl
  where
    go : (b : Bool) → has_row bytes k ≡ b → (k < length bytes) × (row_after bytes k ≡ k + 1)
    go true e = let t = row_there bytes k e in (omega (arith, t.1), ((step_of bytes k).row t).1)
    go false e = absurd (u (rw e))
