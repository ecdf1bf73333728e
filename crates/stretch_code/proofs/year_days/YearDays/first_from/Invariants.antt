-- The search from where the walk stands comes to what the search from the first date comes to.
use Rattle.std.proofs.Common.{◌≡◌, Bool, ℕ, ◌-◌}
use Rattle.laws.specs.Search.{seek}
use Rattle.hebrew.specs.Steps.{year_date}
use Rattle.stretch_code.specs.Days.{Tells}
use Rattle.stretch_code.proofs.year_days.YearDays.first_from.Given as goal

abbrev pub invariant-loop : goal.invariant-loop
invariant-loop g l =
    let length = l.self.length in
    (l.date ≡ year_date length l.counter)
    × ((p : ℕ → Bool) → Tells length (goal.F-post g l.wanted) p → seek p (length - l.fn.from.after) l.fn.from.after ≡ seek p (length - l.counter) l.counter)
