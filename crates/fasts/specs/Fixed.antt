-- The words of this crate, fixed by plain numbers: a promise said in them cannot move with them. Years in which each of the four
-- is moved; a year of fasts, each ahead until it is past; each end of a range in and its neighbour out.
use Rattle.std.specs.Prelude.{◌≡◌, List, [], ◌∷◌, ℕ}
use Rattle.fasts.specs.Ahead.{fast_ahead}
use Rattle.fasts.specs.Answers.{fasts_answer, fasts_buffer}

-- Lent: four numbers, five and six.
abbrev pub four : List ℕ
four = 7 ∷ 7 ∷ 7 ∷ 7 ∷ []

abbrev pub five : List ℕ
five = 7 ∷ four

abbrev pub six : List ℕ
six = 7 ∷ five

-- The answer, and the lent numbers afterwards.
abbrev pub Writes : ℕ → List ℕ → List ℕ → Type 0
Writes h lent list = (fasts_answer h lent ≡ record { refusal = 0; count = 5 }) × (fasts_buffer h lent ≡ list)

abbrev pub Refused : ℕ → List ℕ → ℕ → ℕ → Type 0
Refused h lent n count = (fasts_answer h lent ≡ record { refusal = n; count = count }) × (fasts_buffer h lent ≡ lent)

-- The day; the month code of the fast ahead of it, and the days left.
abbrev pub AheadIs : ℕ → ℕ → ℕ → Type 0
AheadIs j code left = fast_ahead j ≡ record { month = code; left = left; none = 0 }

abbrev pub NoneAhead : ℕ → Type 0
NoneAhead j = fast_ahead j ≡ record { month = 0; left = 0; none = 1 }

pub record WordsFixed : Type 0 where
  -- 13 Adar II 5784, 3 Tishri 5785, and 17 Tammuz and 9 Av 5782 are Saturdays.
  pub years :
      Writes 5784 six (2460206 ∷ 2460301 ∷ 2460391 ∷ 2460515 ∷ 2460536 ∷ 7 ∷ [])
      × Writes 5785 five (2460590 ∷ 2460686 ∷ 2460748 ∷ 2460870 ∷ 2460891 ∷ [])
      × Writes 5782 six (2459467 ∷ 2459563 ∷ 2459655 ∷ 2459778 ∷ 2459799 ∷ 7 ∷ [])
  pub ends :
      Writes 1 five (348000 ∷ 348097 ∷ 348159 ∷ 348281 ∷ 348302 ∷ [])
      × Writes 9999 five (3999725 ∷ 3999820 ∷ 3999880 ∷ 4000004 ∷ 4000025 ∷ [])
  pub no_year : Refused 0 six 1 0 × Refused 10000 six 1 0 × Refused 0 [] 1 0
  pub short : Refused 5784 four 10 5 × Refused 5784 [] 10 5
  -- New Year 5784; each of its fasts and the day after it, the last of which has the next year's Sunday ahead.
  pub in_turn :
      AheadIs 2460204 1 2 × AheadIs 2460206 1 0 × AheadIs 2460207 4 94 × AheadIs 2460301 4 0 × AheadIs 2460302 7 89
      × AheadIs 2460391 7 0 × AheadIs 2460392 11 123 × AheadIs 2460515 11 0 × AheadIs 2460516 12 20
      × AheadIs 2460536 12 0 × AheadIs 2460537 1 53
  -- The first day of the range; the last fast of all, the day after it and the last day.
  pub of_range : AheadIs 347998 1 2 × AheadIs 4000025 12 0 × NoneAhead 4000026 × NoneAhead 4000075
