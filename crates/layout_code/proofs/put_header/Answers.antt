use mathlib.Core.List.{◌++◌}
use native.Mathlib.Omega.{arith}
use Rattle.laws.proofs.Stores.{sets_more}
use Rattle.layout.specs.Layout.{little_endian, header_bytes, index_offset, rows_offset}
use Rattle.layout_code.proofs.put_header.Goals as goal

pub returns : goal.returns
unfolding header_bytes little_endian
returns c =
    let a = c.args in
    let e = a.out.now in
    let years = little_endian 2 a.years in
    let first = little_endian 2 a.first_year in
    let rows = little_endian 4 a.rows in
    let index = little_endian 4 index_offset in
    rw (
      c.put-5.ensures,
      c.put-4.ensures,
      c.put-3.ensures,
      c.put-2.ensures,
      c.put.ensures,
      sets_more e years first 0 2 (omega arith),
      sets_more e (years ++ first) rows 0 4 (omega arith),
      sets_more e (years ++ first ++ rows) index 0 8 (omega arith),
    )
    (sets_more e (years ++ first ++ rows ++ index) (little_endian 4 (rows_offset a.years)) 0 12 (omega arith))
