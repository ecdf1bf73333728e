use native.Mathlib.Omega.{arith}
use Rattle.laws.proofs.Stores.{sets_three}
use Rattle.layout.specs.Layout.{little_endian, entry_bytes}
use Rattle.layout_code.proofs.put_entry.Goals as goal

pub returns : goal.returns
unfolding entry_bytes little_endian
returns c =
    let a = c.args in
    rw (c.put-3.ensures, c.put-2.ensures, c.put.ensures) (sets_three a.out.now (little_endian 4 a.offset) (little_endian 2 a.rows) (little_endian 2 a.days) a.at _ _ (omega arith) (omega arith))
