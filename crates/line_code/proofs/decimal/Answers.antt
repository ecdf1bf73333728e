use Rattle.std.proofs.Common.{◌≡◌, ◌<◌, ◌≤◌, ◌-◌, length, take, get_or, arith, sym}
use lib.Seq.{take-suc}
use native.Mathlib.Numerals.{add-one}
use Rattle.line.proofs.Lines.{decimal_none, decimal_more, below_more}
use Rattle.line_code.proofs.decimal.Goals as goal

pub loop-byte-init : goal.loop-byte-init
loop-byte-init c = (sym decimal_none, omega arith)

pub loop-byte-preserved : goal.loop-byte-preserved
loop-byte-preserved c =
    let s = c.args.line.now in
    let i = c.loop-byte.byte-index in
    let h : i < length s = omega arith in
    let byte : c.from.result ≡ get_or s i 0 - 48 = c.from.ensures in
    let figure : c.from.result ≤ 9 = omega (arith, byte, (c.requires.1 i h).1) in (
      rw (c.loop-byte.invariant.0, byte, add-one, take-suc s i 0) (sym (decimal_more (take i s) _)),
      below_more c.loop-byte.number i c.from.result c.loop-byte.invariant.1 figure,
    )
