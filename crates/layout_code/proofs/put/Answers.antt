use native.Mathlib.Omega.{arith}
use Rattle.layout_code.proofs.Bytes.{put_stored}
use Rattle.layout_code.proofs.put.Goals as goal

pub returns : goal.returns
returns g c =
    let a = c.args in
    put_stored a.out.now _ a.at g.row.BYTES _ a.x (omega arith) (omega arith) (omega arith) (rw c.to_le_bytes.ensures at c.copy_from_slice.ensures.after)
