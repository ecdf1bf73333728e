-- What a walk has before it.
use Rattle.std.specs.Prelude.{List, ◌-◌}
use Rattle.hebrew.specs.declared.YearDate.{YearDate}
use Rattle.year_dates.specs.Walk.{dates}
use Rattle.year_dates.specs.declared.walk.Dates.{Dates}

unfoldable pub left : Dates → List YearDate
left walk = dates walk.length walk.date.after (walk.length - walk.date.after)
