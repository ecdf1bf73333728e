-- What her route answers, fixed by plain numbers: each end of the years is in and its neighbour out; 5762 has no noon step, and
-- 3 has one.
use Rattle.std.specs.Prelude.{◌≡◌, ℕ}
use Rattle.rhodes.specs.Answers.{rhodes_answer}

abbrev pub RhodesIs : ℕ → ℕ → ℕ → ℕ → ℕ → ℕ → ℕ → ℕ → ℕ → Type 0
RhodesIs h refusal j w moladJ hour part delay cause =
    rhodes_answer h
    ≡ record { refusal = refusal; day = j; weekday = w; molad_day = moladJ; molad_hour = hour; molad_part = part; delay = delay; cause = cause }

pub record WordsFixed : Type 0 where
  pub ends : RhodesIs 1 0 347998 2 347998 5 204 0 0 × RhodesIs 10000 0 4000076 5 4000076 7 827 0 0
  pub years : RhodesIs 5762 0 2452171 3 2452171 4 106 0 0 × RhodesIs 3 0 348708 5 348706 22 876 2 3
  pub outside : RhodesIs 0 1 0 0 0 0 0 0 0 × RhodesIs 10001 1 0 0 0 0 0 0 0
