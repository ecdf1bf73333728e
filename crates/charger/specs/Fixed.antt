-- The words of this crate, fixed by plain numbers: a promise said in them cannot move with them. A Friday; the eve of a New Year
-- from Thursday to Saturday; the first day of a stretch and the last, and the day after it, with the wings' next stretches; each
-- figure at both ends of its range and beyond them; both ends of the range of days; each refusal.
use Rattle.std.specs.Prelude.{◌≡◌, ℕ}
use Rattle.charger.specs.Answers.{charge_answer}
use Rattle.charger.specs.declared.Figures.{Figures}

-- Draw, capacity, rate and charge.
abbrev pub figures : ℕ → ℕ → ℕ → ℕ → Figures
figures draw capacity rate charge = record { draw = draw; capacity = capacity; rate = rate; charge = charge }

-- Figures that fill a day: 24 hours for one day's need.
abbrev pub day_long : Figures
day_long = figures 24000 30000 1000 0

-- The wing, the day and the figures; start, hours, and the stretch's first day and length.
abbrev pub Starts : ℕ → ℕ → Figures → ℕ → ℕ → ℕ → ℕ → Type 0
Starts wing j x start hours first days =
    charge_answer wing j x ≡ record { refusal = 0; start = start; hours = hours; first = first; length = days }

abbrev pub NoStart : ℕ → ℕ → Figures → ℕ → Type 0
NoStart wing j x n = charge_answer wing j x ≡ record { refusal = n; start = 0; hours = 0; first = 0; length = 0 }

pub record WordsFixed : Type 0 where
  -- 18 Tishri 5762. The Saturday begins with hour 58,852,536, the Friday 24 hours before.
  pub friday :
      Starts 1 2452188 (figures 24000 30000 1000 4000) 58852516 20 2452189 1
      × Starts 1 2452188 (figures 24001 30000 1000 4000) 58852515 21 2452189 1
      × Starts 1 2452188 day_long 58852512 24 2452189 1
      × NoStart 1 2452188 (figures 24001 30000 1000 0) 14
  -- The charge is one watt-hour short of the need, the need, and above it.
  pub charged :
      Starts 1 2452188 (figures 24000 30000 1000 23999) 58852535 1 2452189 1
      × Starts 1 2452188 (figures 24000 30000 1000 24000) 58852536 0 2452189 1
      × Starts 1 2452188 (figures 24000 30000 1000 30000) 58852536 0 2452189 1
  -- 29 Elul 5774, with a bank that just suffices.
  pub eve :
      Starts 1 2456925 (figures 20000 60000 1000 36000) 58966200 24 2456926 3
      × NoStart 1 2456925 (figures 20000 59999 1000 36000) 13
      × NoStart 1 2456925 (figures 20000 60000 999 36000) 14
  -- 1 Tishri 1, the first of two days. The next stretch begins 72 hours after their end.
  pub begun :
      Starts 1 347998 (figures 72000 72000 1000 0) 8352000 72 348003 1
      × NoStart 1 347998 (figures 72001 72001 1000 0) 14
      × Starts 2 347998 (figures 72000 72000 1000 0) 8352000 72 348003 1
      × NoStart 2 347998 (figures 72001 72001 1000 0) 14
  -- 17 Tishri 5775, a Saturday, ends a stretch in both wings, of one day and of three. The next begins 96 hours later, on
  -- 22 Tishri, of one day and of three.
  pub both_wings :
      Starts 1 2456942 (figures 32000 96000 1000 0) 58966696 32 2456947 1
      × Starts 2 2456942 (figures 32000 96000 1000 0) 58966632 96 2456947 3
      × Starts 1 2456943 (figures 32000 96000 1000 0) 58966696 32 2456947 1
      × Starts 2 2456943 (figures 32000 96000 1000 0) 58966632 96 2456947 3
      × NoStart 2 2456942 (figures 32001 96003 1000 0) 14
  pub least : Starts 1 2452188 (figures 1 1 1 0) 58852535 1 2452189 1 × Starts 1 2452188 (figures 1 1 1 1) 58852536 0 2452189 1
  pub most :
      Starts 1 2452188 (figures 1000000 1000000 1000000 0) 58852535 1 2452189 1
      × Starts 1 2452188 (figures 1000000 1000000 1000000 1000000) 58852536 0 2452189 1
  pub no_figure :
      NoStart 1 2452188 (figures 0 30000 1000 4000) 12 × NoStart 1 2452188 (figures 1000001 30000 1000 4000) 12
      × NoStart 1 2452188 (figures 24000 0 1000 0) 12 × NoStart 1 2452188 (figures 24000 1000001 1000 4000) 12
      × NoStart 1 2452188 (figures 24000 30000 0 4000) 12 × NoStart 1 2452188 (figures 24000 30000 1000001 4000) 12
      × NoStart 1 2452188 (figures 24000 30000 1000 30001) 12
  -- The last Friday. The last Saturday begins with hour 96,001,704.
  pub last_start : Starts 1 4000070 day_long 96001680 24 4000071 1 × Starts 2 4000070 day_long 96001680 24 4000071 1
  pub no_stretch_is :
      NoStart 1 4000071 day_long 9 × NoStart 2 4000071 day_long 9 × NoStart 1 4000072 day_long 9
      × NoStart 2 4000072 day_long 9 × NoStart 1 4000075 day_long 9 × NoStart 2 4000075 day_long 9
  pub no_day_is : NoStart 1 347997 day_long 4 × NoStart 2 347997 day_long 4 × NoStart 1 4000076 day_long 4 × NoStart 2 4000076 day_long 4
  pub no_wing : NoStart 0 2452188 day_long 15 × NoStart 3 2452188 day_long 15
  -- The first of several is given: 15, 4, 12, 9, 13, 14.
  pub in_turn :
      NoStart 3 347997 (figures 0 0 0 1) 15 × NoStart 1 347997 (figures 0 0 0 1) 4 × NoStart 1 4000071 (figures 0 0 0 1) 12
      × NoStart 1 4000071 (figures 30001 30000 1 0) 9 × NoStart 1 2452188 (figures 30001 30000 1 0) 13
      × NoStart 1 2452188 (figures 30000 30000 1 0) 14
