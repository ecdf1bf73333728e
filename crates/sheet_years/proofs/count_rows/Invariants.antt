use mathlib.Core.Path.{◌≡◌}
use Prim.Native.Nat.{◌*◌, ◌≤◌}
use Rattle.rest_table.specs.Wing.{number_of}
use Rattle.sheet.specs.Sheet.{rows_before}
use Rattle.sheet_years.proofs.count_rows.Given as given

abbrev pub invariant-loop-k : given.invariant-loop-k
invariant-loop-k l = record { counted : l.rows ≡ rows_before (number_of l.wing) l.years.first l.k; few : l.rows ≤ 60 * l.k }
