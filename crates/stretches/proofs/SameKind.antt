-- Years of one kind are answered with the same stretches.
use mathlib.Core.Path.{◌≡◌, sym}
use mathlib.Core.List.{List}
use Prim.Native.Nat.{ℕ, ◌*◌}
use native.Mathlib.Omega.{arith}
use lib.ListN.{take}
use Rattle.laws.proofs.Stores.{list_written}
use Rattle.newyear.specs.NewYear.{new_year}
use Rattle.newyear.specs.Promises.{OneKind}
use Rattle.newyear.proofs.Fourteen.{alike}
use Rattle.rest.specs.Wings.{table_of}
use Rattle.rest.proofs.Passed.{tables_pass}
use Rattle.stretches.specs.Stretches.{stretch_rows}
use Rattle.stretches.specs.Promises.{counted_from}
use Rattle.stretches.specs.Answers.{wing_stretches, wing_stretches_buffer}
use Rattle.stretches.proofs.OfKind.{stretches_by_kind, long_by_kind}
use Rattle.stretches.proofs.Answers.{stretches_promised, stretches_lent}

module _ (wing : ℕ) where
  -- What the call writes for year h.
  abbrev written : ℕ → List ℕ → List ℕ
  written h buffer = take (2 * (wing_stretches wing h buffer).count) (wing_stretches_buffer wing h buffer)

  is_written : (h : ℕ) (buffer : List ℕ) → (wing_stretches wing h buffer).refusal ≡ 0 → written h buffer ≡ stretch_rows (table_of wing) h
  is_written h buffer z =
      let t = stretches_promised wing h buffer in
      list_written (stretch_rows (table_of wing) h) buffer _ _ _ (stretches_lent wing h buffer) z (sym (t.values (t.done.0 z)))

  -- Years of one kind are answered with as many stretches, of the same lengths and with the same first days, counted from
  -- New Year.
  pub same_stretches :
      (g h : ℕ) → OneKind g h → (b c : List ℕ) → (wing_stretches wing g b).refusal ≡ 0 → (wing_stretches wing h c).refusal ≡ 0 →
      ((wing_stretches wing g b).count ≡ (wing_stretches wing h c).count)
      × (counted_from (new_year g) (written g b) ≡ counted_from (new_year h) (written h c))
  same_stretches g h o b c p q =
      let a = alike g h o in
      let s = tables_pass wing in
      let t = stretches_promised wing g b in
      let u = stretches_promised wing h c in
      let long = long_by_kind (table_of wing) s g a.first in
      let also = long_by_kind (table_of wing) s h a.second in (
        omega (arith, t.values (t.done.0 p), u.values (u.done.0 q), long, rw (← a.same_weekday, ← a.same_length) at also),
        rw (is_written g b p, is_written h c q, stretches_by_kind (table_of wing) s g a.first, stretches_by_kind (table_of wing) s h a.second, a.same_weekday, a.same_length),
      )
