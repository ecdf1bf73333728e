-- The words of this crate, fixed by plain numbers: a promise said in them cannot move with them. Each rule that has a time
-- applies on the part of its limit and not on the part before it, and the Tuesday and the Monday rule end at noon. 18h 0p
-- are 19,440 parts, 9h 204p are 9,924 and 15h 589p are 16,789.
use Rattle.std.specs.Prelude.{◌≡◌, Bool, true, false, ℕ}
use Rattle.delays.specs.Delays.{delayed}

-- A molad on weekday w, t parts after 18:00: so many days, for this cause.
abbrev pub Gives : ℕ → ℕ → Bool → Bool → ℕ → ℕ → Type 0
Gives w t isLeap afterLeap days cause = delayed w t isLeap afterLeap ≡ record { delay = days; cause = cause }

pub record WordsFixed : Type 0 where
  -- In a year after a leap year, leap or not.
  pub monday : (b : Bool) → Gives 2 16788 b true 0 0 × Gives 2 16789 b true 1 5 × Gives 2 19439 b true 1 5 × Gives 2 19440 b true 1 1
  -- In a common year, whatever the year before it was.
  pub tuesday : (b : Bool) → Gives 3 9923 false b 0 0 × Gives 3 9924 false b 2 4 × Gives 3 19439 false b 2 4 × Gives 3 19440 false b 2 3
  -- Where neither rule applies.
  pub noon : (b : Bool) → Gives 2 19439 b false 0 0 × Gives 2 19440 b false 1 1 × Gives 1 19439 b false 1 2 × Gives 1 19440 b false 1 1
