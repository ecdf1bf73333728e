-- What a delay with its cause promises.
use Rattle.std.specs.Prelude.{◌≡◌, Bool, true, false, [], ◌∷◌, ◌↔◌, ℕ, ◌≤◌, ◌<◌, get_or}
use Rattle.laws.specs.Runs.{elem}

-- Why New Year comes so many days after a molad on weekday w, t parts after 18:00: each cause exactly where its rule
-- applies, no other cause, and the days that go with each. 18h 0p are 19,440 parts, 9h 204p are 9,924 and 15h 589p are
-- 16,789.
pub record Explained (w t : ℕ) (isLeap afterLeap : Bool) (delay cause : ℕ) : Type 0 where
  -- At noon or later, and the next day is no Sunday, Wednesday or Friday.
  pub noon : (cause ≡ 1) ↔ ((19440 ≤ t) × (elem w (1 ∷ 2 ∷ 4 ∷ 6 ∷ []) ≡ true))
  -- Before noon on a Sunday, Wednesday or Friday.
  pub on_weekday : (cause ≡ 2) ↔ ((t < 19440) × (elem w (1 ∷ 4 ∷ 6 ∷ []) ≡ true))
  -- At noon or later on the day before one of these.
  pub noon_then_weekday_is : (cause ≡ 3) ↔ ((19440 ≤ t) × (elem w (3 ∷ 5 ∷ 7 ∷ []) ≡ true))
  pub tuesday : (cause ≡ 4) ↔ (((isLeap ≡ false) × (w ≡ 3)) × ((9924 ≤ t) × (t < 19440)))
  pub monday : (cause ≡ 5) ↔ (((afterLeap ≡ true) × (w ≡ 2)) × ((16789 ≤ t) × (t < 19440)))
  pub known : cause ≤ 5
  pub days : delay ≡ get_or (0 ∷ 1 ∷ 1 ∷ 2 ∷ 2 ∷ 1 ∷ []) cause 0
