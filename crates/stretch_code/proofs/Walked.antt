-- What the search for the next rest day tells, and the search from the day after it for the run's end.
use Rattle.std.proofs.Common.{arith, ◌≡◌, ℕ, not, ◌+◌, ◌-◌, ◌<◌, sym}
use Rattle.laws.specs.Search.{seek_not}
use Rattle.laws.proofs.Found.{Seek, seek_tells}
use Rattle.stretch.specs.Steps.{next_at}
use Rattle.stretch.proofs.Walk.{search_on}
use Rattle.stretch_code.specs.Days.{rests}
use Rattle.stretch_code.specs.declared.year_days.YearDays.{YearDays}

module _ (y : YearDays) (x : ℕ) where
  abbrev n : ℕ
  n = next_at (rests y) y.length x

  pub told : Seek (rests y) (y.length - x) x n
  unfolding next_at
  told = seek_tells _ _ _

  pub on : x < y.length → n < y.length → seek_not (rests y) (y.length - (n + 1)) (n + 1) ≡ seek_not (rests y) (y.length - n) n
  unfolding seek_not
  on l m = let t = told in sym (search_on (λ k. not (rests y k)) y.length n m (rw (t.pass (omega arith))))
