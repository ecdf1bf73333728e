use native.Mathlib.Omega.{arith}
use Rattle.laws.proofs.Stores.{sets_three}
use Rattle.layout.specs.Layout.{little_endian, row_bytes}
use Rattle.layout_code.proofs.put_row.Goals as goal

pub returns : goal.returns
unfolding row_bytes little_endian
returns c =
    let a = c.args in
    rw (c.put-3.ensures, c.put-2.ensures, c.put.ensures) (sets_three a.out.now (little_endian 4 a.first) (little_endian 1 a.days) (little_endian 1 a.wing) a.at _ _ (omega arith) (omega arith))
