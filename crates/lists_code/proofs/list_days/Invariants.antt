use Rattle.std.proofs.Common.{◌≡◌, ℕ, take}
use Rattle.laws.specs.Buffer.{overwrite}
use Rattle.lists.specs.Lists.{days_of}
use Rattle.lists_code.specs.Handed.{TellsEach}
use Rattle.lists_code.proofs.list_days.Given as goal

abbrev pub invariant-loop-i : goal.invariant-loop-i
invariant-loop-i g l =
    (day : ℕ → ℕ) → TellsEach (goal.F-post g l.fn.day) l.table day → l.out ≡ overwrite l.initial.out (take l.i (days_of day l.table))
