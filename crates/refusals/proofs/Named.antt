-- Each refusal has a number, and a number names one refusal.
use mathlib.Core.Path.{◌≡◌, refl, sym, ◌∙◌, ap}
use mathlib.Core.Bool.{cond}
use Prim.Native.Nat.{ℕ, ◌≤◌}
use native.Mathlib.Omega.{arith}
use lib.Dec.{eqb}
use Rattle.refusals.specs.Refusals.{number_of}
use Rattle.refusals.specs.declared.Refusal.{Refusal}
use Rattle.refusals.specs.declared.Refusal.TheVariants.{BadYear, BadMonth, BadDay, DayOutOfRange, BadCivilYear, BadCivilMonth, BadCivilDay, CivilDateOutOfRange, NoStretch, BufferTooShort, BadYearCount, BadFigure, NeedExceedsCapacity, HoursDoNotFit, BadWing, SheetTooShort, BadSheetYears, BadSheetLayout, BadSheetContent}

pub numbered : (why : Refusal) → 1 ≤ number_of why
numbered why = grind arith

-- The refusal of a number.
named : ℕ → Refusal
named n =
    cond (eqb n 1) BadYear
    (cond (eqb n 2) BadMonth
    (cond (eqb n 3) BadDay
    (cond (eqb n 4) DayOutOfRange
    (cond (eqb n 5) BadCivilYear
    (cond (eqb n 6) BadCivilMonth
    (cond (eqb n 7) BadCivilDay
    (cond (eqb n 8) CivilDateOutOfRange
    (cond (eqb n 9) NoStretch
    (cond (eqb n 10) BufferTooShort
    (cond (eqb n 11) BadYearCount
    (cond (eqb n 12) BadFigure
    (cond (eqb n 13) NeedExceedsCapacity
    (cond (eqb n 14) HoursDoNotFit
    (cond (eqb n 15) BadWing
    (cond (eqb n 16) SheetTooShort
    (cond (eqb n 17) BadSheetYears
    (cond (eqb n 18) BadSheetLayout
    BadSheetContent)))))))))))))))))

named_lem : (why : Refusal) → named (number_of why) ≡ why
unfolding named
named_lem BadYear = refl
named_lem BadMonth = refl
named_lem BadDay = refl
named_lem DayOutOfRange = refl
named_lem BadCivilYear = refl
named_lem BadCivilMonth = refl
named_lem BadCivilDay = refl
named_lem CivilDateOutOfRange = refl
named_lem NoStretch = refl
named_lem BufferTooShort = refl
named_lem BadYearCount = refl
named_lem BadFigure = refl
named_lem NeedExceedsCapacity = refl
named_lem HoursDoNotFit = refl
named_lem BadWing = refl
named_lem SheetTooShort = refl
named_lem BadSheetYears = refl
named_lem BadSheetLayout = refl
named_lem BadSheetContent = refl

pub one_refusal : (a b : Refusal) → number_of a ≡ number_of b → a ≡ b
one_refusal a b e = sym (named_lem a) ∙ ap named e ∙ named_lem b
