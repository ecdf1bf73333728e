use Rattle.std.proofs.Common.{◌≡◌, ◌≤◌, length}
use Rattle.laws.specs.Buffer.{overwrite}
use Rattle.rest.specs.Wings.{table_of}
use Rattle.rest.specs.Steps.{rest_at}
use Rattle.rest_table.specs.Wing.{number_of}
use Rattle.stretches.specs.Promises.{stretches_room}
use Rattle.stretches.specs.Steps.{run_before, rows_at}
use Rattle.stretches_code.proofs.rows.year_rows.Given as goal

abbrev pub invariant-loop-date : goal.invariant-loop-date
invariant-loop-date l =
    let rest = rest_at (table_of (number_of l.wing)) l.weekday l.span.length in
    let k = length l.yielded in
    let rows = rows_at rest l.span.new_year k in
    (l.run ≡ run_before rest k) × (l.n ≡ length rows) × (l.out ≡ overwrite l.initial.out rows) × (l.run ≤ k) × (l.n ≤ stretches_room)
