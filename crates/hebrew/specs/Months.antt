-- The months of a year, by their codes: document 01's table. A month's length depends on its code and, for codes 2 and 3,
-- on the year's length; code 6, Adar I, is a month of leap years only, and a leap year has 383 days or more.
use Rattle.std.specs.Prelude.{◌||◌, cond, List, [], ◌∷◌, ℕ, zero, suc, ◌+◌, eqb, leb, get_or}

-- 30 if the year has 355 or 385, else 29.
abbrev pub marheshvan : ℕ → ℕ
marheshvan len = cond (eqb len 355 || eqb len 385) 30 29

-- 29 if 353 or 383, else 30.
abbrev pub kislev : ℕ → ℕ
kislev len = cond (eqb len 353 || eqb len 383) 29 30

-- 30 in leap years; in a common year it has no days.
abbrev pub adar_i : ℕ → ℕ
adar_i len = cond (leb 383 len) 30 0

-- Code 0 is no month: Tishri is 1. Then Tishri, Marheshvan, Kislev, Tevet, Shevat, Adar I, Adar or Adar II, Nisan, Iyar,
-- Sivan, Tammuz, Av, Elul.
abbrev pub month_lengths : ℕ → List ℕ
month_lengths len =
    0 ∷ 30 ∷ marheshvan len ∷ kislev len ∷ 29 ∷ 30 ∷ adar_i len ∷ 29 ∷ 30 ∷ 29 ∷ 30 ∷ 29 ∷ 30 ∷ 29 ∷ []

unfoldable pub month_length : ℕ → ℕ → ℕ
month_length len code = get_or (month_lengths len) code 0

-- The days of the months before a code, added up.
unfoldable pub days_before : ℕ → ℕ → ℕ
days_before len zero = 0
days_before len (suc code) = days_before len code + month_length len code
