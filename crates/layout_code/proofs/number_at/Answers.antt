use mathlib.Core.Path.{◌∙◌}
use native.Mathlib.Omega.{arith}
use Rattle.layout_code.proofs.Bytes.{read, read_small}
use Rattle.layout_code.proofs.number_at.Goals as goal

pub returns : goal.returns
returns g c =
    let a = c.args in
    let is = read a.bytes.now c.copy_from_slice.new.self a.at g.row.BYTES _ (omega arith) (omega arith) (omega arith) c.copy_from_slice.ensures.after in
    let small = read_small a.bytes.now c.copy_from_slice.new.self a.at g.row.BYTES _ (omega arith) (omega arith) (omega arith) c.copy_from_slice.ensures.after (λ i. omega (arith, c.type_inv.bytes i)) in
    let e = c.from_le_bytes.ensures ∙ is in
    (e, rw e small)
