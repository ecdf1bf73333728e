-- A year's kind is the weekday of its New Year and its length. It is held as one number, its code, 1,000 × weekday + length,
-- so that codes in rising order go by weekday from Sunday on and then by length.
use Rattle.std.specs.Prelude.{◌≡◌, Bool, true, List, [], ◌∷◌, ℕ, ◌+◌, ◌*◌, ◌/◌, ◌%◌, ◌≤◌}
use Rattle.laws.specs.Runs.{each_of, elem, place_in}
use Rattle.days.specs.Weekday.{weekday}
use Rattle.newyear.specs.NewYear.{new_year, year_length}

abbrev pub lengths : List ℕ
lengths = 353 ∷ 354 ∷ 355 ∷ 383 ∷ 384 ∷ 385 ∷ []

-- One of the six, with its bounds.
pub record IsLength (n : ℕ) : Type 0 where
  pub among : elem n lengths ≡ true
  pub short : 353 ≤ n
  pub long : n ≤ 385

abbrev pub kind_code : ℕ → ℕ → ℕ
kind_code w len = 1000 * w + len

-- Monday 353, 355, 383, 385; Tuesday 354, 384; Thursday 354, 355, 383, 385; Saturday 353, 355, 383, 385.
abbrev pub kinds : List ℕ
kinds =
    kind_code 2 353 ∷ kind_code 2 355 ∷ kind_code 2 383 ∷ kind_code 2 385
    ∷ kind_code 3 354 ∷ kind_code 3 384
    ∷ kind_code 5 354 ∷ kind_code 5 355 ∷ kind_code 5 383 ∷ kind_code 5 385
    ∷ kind_code 7 353 ∷ kind_code 7 355 ∷ kind_code 7 383 ∷ kind_code 7 385 ∷ []

-- One of the fourteen.
abbrev pub IsKind : ℕ → Type 0
IsKind k = elem k kinds ≡ true

-- The test p passes for the weekday and the length of each of the fourteen.
unfoldable pub every_kind : (ℕ → ℕ → Bool) → Bool
every_kind p = each_of kinds (λ k. p (k / 1000) (k % 1000))

unfoldable pub kind_of : ℕ → ℕ
kind_of h = kind_code (weekday (new_year h)) (year_length h)

-- The kinds are numbered 1 to 14, in their order.
unfoldable pub kind_number : ℕ → ℕ
kind_number k = place_in kinds k
