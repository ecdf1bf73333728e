-- What is told of a month that is asked for by its year and code, or why nothing is.
use Rattle.std.specs.Prelude.{◌≡◌, true, false, ◌||◌, cond, ℕ, Result, MatchResult}
use Rattle.refusals.specs.declared.Refusal.{Refusal}
use Rattle.refusals.specs.declared.Refusal.TheVariants.{BadYear, BadMonth}
use Rattle.molad.specs.Years.{out_of_years, leap}
use Rattle.molad.specs.Molad.{no_month}

-- It is told where the year is one of those covered and the code is a month of it; else it is refused, for the year first.
abbrev pub IsMonthAsked : {A : Type 0} → ℕ → ℕ → (A → Type 0) → Result A Refusal → Type 0
IsMonthAsked h code Told r =
    MatchResult r
    (λ told. (out_of_years h ≡ false) × ((no_month (leap h) code ≡ false) × Told told))
    (λ why. (out_of_years h || no_month (leap h) code ≡ true) × (why ≡ cond (out_of_years h) BadYear BadMonth))
