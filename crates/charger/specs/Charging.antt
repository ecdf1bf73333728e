-- What a stretch needs, and when charging for it may begin, by document 02 §3. Figures are in watt-hours.
use Rattle.std.specs.Prelude.{Bool, ◌&&◌, ◌||◌, cond, ℕ, ◌+◌, ◌*◌, ◌-◌, ◌/◌, eqb, leb, ltb}
use Rattle.laws.specs.Runs.{outside}
use Rattle.stretch.specs.Answers.{wing_stretch}
use Rattle.stretch.specs.declared.StretchAnswer.{StretchAnswer}
use Rattle.charger.specs.declared.Figures.{Figures}

-- Draw, capacity and rate are 1 to 1,000,000 each, the charge 0 to the capacity.
abbrev pub bad_figures : Figures → Bool
bad_figures x =
    outside 1 1000000 x.draw
    || (outside 1 1000000 x.capacity || (outside 1 1000000 x.rate || ltb x.capacity x.charge))

-- Hours count 24 × J from 18:00 the evening before: the hour with which day j begins.
abbrev pub hour_of : ℕ → ℕ
hour_of j = 24 * j

-- Need is draw × length.
abbrev pub need : Figures → ℕ → ℕ
need x days = x.draw * days

-- Of a need of n, missing is need less charge, never below zero. The charge now is taken to hold until charging begins.
abbrev pub missing : Figures → ℕ → ℕ
missing x n = n - x.charge

-- Hours are missing divided by rate, rounded up.
unfoldable pub hours_needed : Figures → ℕ → ℕ
hours_needed x n = (missing x n + (x.rate - 1)) / x.rate

-- The stretch answered for day j holds that day if it has begun. A refused answer holds none.
abbrev pub holding : StretchAnswer → ℕ → Bool
holding s j = eqb s.refusal 0 && leb s.first j

-- Charging begins neither before the day asked begins nor before the end of the last stretch ahead of the chosen one. Of
-- those stretches only one that holds the day asked can still go on: so charging may begin with the first day, from the
-- day asked on, that no stretch holds. That this is both bounds, and no more, is proved (Serves in Promises).
unfoldable pub earliest_day : ℕ → ℕ → ℕ
earliest_day wing j = let s = wing_stretch wing j in cond (holding s j) (s.first + s.length) j

-- The chosen stretch: the one for that day. That it is the next that begins after the day asked is proved (Chosen in
-- Promises).
abbrev pub chosen : ℕ → ℕ → StretchAnswer
chosen wing j = wing_stretch wing (earliest_day wing j)
