-- The number that stands for each refusal in an answer.
use Rattle.std.specs.Prelude.{ℕ, Option, Some, None, Result, Ok, Err}
use Rattle.refusals.specs.declared.Refusal.{Refusal}
use Rattle.refusals.specs.declared.Refusal.TheVariants.{BadYear, BadMonth, BadDay, DayOutOfRange, BadCivilYear, BadCivilMonth, BadCivilDay, CivilDateOutOfRange, NoStretch, BufferTooShort, BadYearCount, BadFigure, NeedExceedsCapacity, HoursDoNotFit, BadWing, SheetTooShort, BadSheetYears, BadSheetLayout, BadSheetContent}

abbrev pub number_of : Refusal → ℕ
number_of BadYear = 1
number_of BadMonth = 2
number_of BadDay = 3
number_of DayOutOfRange = 4
number_of BadCivilYear = 5
number_of BadCivilMonth = 6
number_of BadCivilDay = 7
number_of CivilDateOutOfRange = 8
number_of NoStretch = 9
number_of BufferTooShort = 10
number_of BadYearCount = 11
number_of BadFigure = 12
number_of NeedExceedsCapacity = 13
number_of HoursDoNotFit = 14
number_of BadWing = 15
number_of SheetTooShort = 16
number_of BadSheetYears = 17
number_of BadSheetLayout = 18
number_of BadSheetContent = 19

-- The refusal number of what is answered or refused: 0 where there is an answer.
abbrev pub refusal_in : {A : Type 0} → Result A Refusal → ℕ
refusal_in (Ok _) = 0
refusal_in (Err why) = number_of why

-- Of what is refused, if anything is.
abbrev pub number_if : Option Refusal → ℕ
number_if (Some why) = number_of why
number_if None = 0
