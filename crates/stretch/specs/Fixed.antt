-- The words of this crate, fixed by plain numbers: a promise said in them cannot move with them. Both wings' stretches about 16
-- Tishri, which the guest wing alone keeps; eves of stretches, and days after them; each end of the range in and its neighbour out.
use Rattle.std.specs.Prelude.{◌≡◌, ℕ, ℤ, pos, negsuc}
use Rattle.stretch.specs.Answers.{wing_stretch}

-- The wing and the day; first day, length and days left of the stretch.
abbrev pub StretchIs : ℕ → ℕ → ℕ → ℕ → ℤ → Type 0
StretchIs wing j first days left = wing_stretch wing j ≡ record { refusal = 0; first = first; length = days; days_left = left }

abbrev pub NoStretch : ℕ → ℕ → ℕ → Type 0
NoStretch wing j n = wing_stretch wing j ≡ record { refusal = n; first = 0; length = 0; days_left = pos 0 }

pub record WordsFixed : Type 0 where
  -- 16 Tishri 5762, a Wednesday; 17 Tishri 5775, a Saturday.
  pub second_days :
      StretchIs 1 2452186 2452189 1 (pos 3) × StretchIs 2 2452186 2452185 2 (negsuc 0)
      × StretchIs 1 2456942 2456942 1 (pos 0) × StretchIs 2 2456942 2456940 3 (negsuc 1)
  -- 18 Tishri 5762, a Friday; 29 Elul 5774, before a New Year from Thursday to Saturday; the last Friday.
  pub eves :
      StretchIs 1 2452188 2452189 1 (pos 1) × StretchIs 1 2456925 2456926 3 (pos 1)
      × StretchIs 1 4000070 4000071 1 (pos 1) × StretchIs 2 4000070 4000071 1 (pos 1)
  -- 3 Tishri 1; 18 Tishri 5775, a Sunday.
  pub days_after :
      StretchIs 1 348000 348003 1 (pos 3) × StretchIs 2 348000 348003 1 (pos 3)
      × StretchIs 1 2456943 2456947 1 (pos 4) × StretchIs 2 2456943 2456947 3 (pos 4)
  pub first_day_is : StretchIs 1 347998 347998 2 (pos 0) × StretchIs 2 347998 347998 2 (pos 0) × NoStretch 1 347997 4 × NoStretch 2 347997 4
  -- 4,000,071 is the last Saturday; 4,000,075 the last day.
  pub last_day_lem :
      StretchIs 1 4000071 4000071 1 (pos 0) × StretchIs 2 4000071 4000071 1 (pos 0)
      × NoStretch 1 4000072 9 × NoStretch 2 4000072 9 × NoStretch 1 4000075 9 × NoStretch 2 4000075 9
      × NoStretch 1 4000076 4 × NoStretch 2 4000076 4
  pub no_wing : NoStretch 0 2452186 15 × NoStretch 3 2452186 15
