-- How many stretches begin in a year, by its kind.
use Rattle.std.specs.Prelude.{cond, List, [], ◌∷◌, ℕ, ◌-◌, eqb, get_or}
use Rattle.laws.specs.Runs.{place_in}
use Rattle.newyear.specs.Kinds.{kinds, kind_of}

-- In a year of each of the kinds 1 to 14: in wing 1, and in the guest wing.
abbrev pub one_counts : List ℕ
one_counts = 57 ∷ 56 ∷ 60 ∷ 59 ∷ 56 ∷ 59 ∷ 53 ∷ 54 ∷ 58 ∷ 60 ∷ 53 ∷ 55 ∷ 59 ∷ 58 ∷ []

abbrev pub guest_counts : List ℕ
guest_counts = 57 ∷ 55 ∷ 59 ∷ 59 ∷ 55 ∷ 59 ∷ 51 ∷ 52 ∷ 56 ∷ 58 ∷ 53 ∷ 55 ∷ 59 ∷ 57 ∷ []

-- By a kind's code, and by the year.
unfoldable pub count_of : List ℕ → ℕ → ℕ
count_of counts code = get_or counts (place_in kinds code - 1) 0

abbrev pub count_in : ℕ → ℕ → ℕ
count_in wing h = count_of (cond (eqb wing 1) one_counts guest_counts) (kind_of h)
