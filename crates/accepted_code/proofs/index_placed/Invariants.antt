use mathlib.Core.Path.{◌≡◌}
use Prim.Native.Nat.{◌*◌, ◌≤◌}
use Rattle.laws.specs.Runs.{every}
use Rattle.sheet.specs.Promises.{rows_told_before}
use Rattle.accepted.specs.Check.{entry_placed}
use Rattle.accepted_code.proofs.index_placed.Given as given

abbrev pub invariant-loop-i : given.invariant-loop-i
invariant-loop-i l =
    record {
      counted : l.«before» ≡ rows_told_before l.sheet l.i;
      few : l.«before» ≤ 65535 * l.i;
      so_far : l.placed ≡ every 0 l.i (entry_placed l.sheet l.years);
    }
