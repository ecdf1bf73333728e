-- Civil years are signed, with a year 0: 3761 BCE is −3760. The years covered are −3760 to 6239. A year is counted as
-- year + 4,000, its raised year, which is no negative number; 4,000 is a multiple of 4, of 100 and of 400, so that
-- a year and its raised year are divisible by the same of these.
use Rattle.std.specs.Prelude.{◌≡◌, Bool, ◌&&◌, ℕ, ◌+◌, ◌-◌, ℤ, pos, negsuc, ◌*ℤ◌, ◌≤ℤ◌}
use Rattle.std.proofs.Math.IntN.{sub_ℕ}
use Rattle.std.specs.Int.Signed.{le_z}

-- `negsuc n` is −1 − n.
abbrev pub first_civil_year : ℤ
first_civil_year = negsuc 3759

abbrev pub last_civil_year : ℤ
last_civil_year = pos 6239

abbrev pub InCivilYears : ℤ → Type 0
InCivilYears y = (first_civil_year ≤ℤ y) × (y ≤ℤ last_civil_year)

abbrev pub covered : ℤ → Bool
covered y = le_z first_civil_year y && le_z y last_civil_year

-- year + 4,000, for a year from −4,000 on.
abbrev pub raised : ℤ → ℕ
raised (pos n) = n + 4000
raised (negsuc n) = 3999 - n

abbrev pub lowered : ℕ → ℤ
lowered s = sub_ℕ s 4000

-- A year is divisible by k when it is k times a whole number, zero and negative ones too.
pub record Divides (k : ℕ) (y : ℤ) : Type 0 where
  pub times : ℤ
  pub product : pos k *ℤ times ≡ y

-- Julian years divisible by 4 are leap.
abbrev pub JulianLeapYear : ℤ → Type 0
JulianLeapYear y = Divides 4 y

-- Gregorian ones too, unless divisible by 100 and not by 400.
abbrev pub GregorianLeapYear : ℤ → Type 0
GregorianLeapYear y = Divides 4 y × (¬ (Divides 100 y × (¬ Divides 400 y)))
