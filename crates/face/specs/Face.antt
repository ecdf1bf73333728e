-- What each exported call answers, under the call's own name. Its contract cites it, so that what is checked of these names is
-- checked of the calls. A call that is lent a buffer has a second name for what it leaves there.
use Rattle.std.specs.Prelude.{List, ℕ, ℤ}
use Rattle.days.specs.Weekday.{weekday_answer}
use Rattle.days.specs.declared.WeekdayAnswer.{WeekdayAnswer}
use Rattle.civil.specs.Calendar.{julian, gregorian}
use Rattle.civil.specs.Answers.{civil_day, civil_date}
use Rattle.civil.specs.declared.CivilDay.{CivilDay}
use Rattle.civil.specs.declared.CivilDate.{CivilDate}
use Rattle.molad.specs.Answers.{molad_answer}
use Rattle.molad.specs.declared.MoladAnswer.{MoladAnswer}
use Rattle.notice.specs.Answers.{notice_answer}
use Rattle.notice.specs.declared.NoticeAnswer.{NoticeAnswer}
use Rattle.newyear.specs.Answers.{new_year_answer, year_answer, kind_answer, year_of_day_answer}
use Rattle.newyear.specs.declared.NewYearAnswer.{NewYearAnswer}
use Rattle.newyear.specs.declared.YearAnswer.{YearAnswer}
use Rattle.newyear.specs.declared.KindAnswer.{KindAnswer}
use Rattle.newyear.specs.declared.YearOfDayAnswer.{YearOfDayAnswer}
use Rattle.rhodes.specs.Answers.{rhodes_answer}
use Rattle.hebrew.specs.Answers.{month_answer, hebrew_day, hebrew_date}
use Rattle.hebrew.specs.declared.MonthAnswer.{MonthAnswer}
use Rattle.hebrew.specs.declared.HebrewDay.{HebrewDay}
use Rattle.hebrew.specs.declared.HebrewDate.{HebrewDate}
use Rattle.lists.specs.declared.ListAnswer.{ListAnswer}
use Rattle.fasts.specs.Answers.{fasts_answer, fasts_buffer}
use Rattle.rest.specs.Answers.{wing_rest_days, wing_rest_days_buffer}
use Rattle.stretch.specs.Answers.{wing_stretch}
use Rattle.stretches.specs.Answers.{wing_stretches, wing_stretches_buffer}
use Rattle.stretch.specs.declared.StretchAnswer.{StretchAnswer}
use Rattle.charger.specs.Answers.{charge_answer}
use Rattle.charger.specs.declared.ChargeAnswer.{ChargeAnswer}
use Rattle.record.specs.Answers.{set_to, next_of, back_of}
use Rattle.record.specs.declared.DayRecord.{DayRecord}
use Rattle.record.specs.declared.Moved.{Moved}
use Rattle.sheet.specs.Answers.{wing_sheet, wing_sheet_buffer}
use Rattle.loaded.specs.Rows.{rows_answer, named_answer}
use Rattle.loaded.specs.Walk.{begun_at, step_at}
use Rattle.loaded.specs.declared.RowsAnswer.{RowsAnswer}
use Rattle.loaded.specs.declared.Begun.{Begun}
use Rattle.loaded.specs.declared.Stepped.{Stepped}

abbrev pub bd_weekday : ℕ → WeekdayAnswer
bd_weekday day = weekday_answer day

abbrev pub bd_julian_to_day : ℤ → ℕ → ℕ → CivilDay
bd_julian_to_day year month day = civil_day julian year month day

abbrev pub bd_gregorian_to_day : ℤ → ℕ → ℕ → CivilDay
bd_gregorian_to_day year month day = civil_day gregorian year month day

abbrev pub bd_day_to_julian : ℕ → CivilDate
bd_day_to_julian day = civil_date julian day

abbrev pub bd_day_to_gregorian : ℕ → CivilDate
bd_day_to_gregorian day = civil_date gregorian day

abbrev pub bd_month_length : ℕ → ℕ → MonthAnswer
bd_month_length year month = month_answer year month

abbrev pub bd_hebrew_to_day : ℕ → ℕ → ℕ → HebrewDay
bd_hebrew_to_day year month day = hebrew_day year month day

abbrev pub bd_day_to_hebrew : ℕ → HebrewDate
bd_day_to_hebrew day = hebrew_date day

abbrev pub bd_molad : ℕ → ℕ → MoladAnswer
bd_molad year month = molad_answer year month

abbrev pub bd_notice : ℕ → ℕ → NoticeAnswer
bd_notice year month = notice_answer year month

abbrev pub bd_new_year : ℕ → NewYearAnswer
bd_new_year year = new_year_answer year

-- The second route, by its own definition; that it is the first is shown in `rhodes`.
abbrev pub bd_new_year_rhodes : ℕ → NewYearAnswer
bd_new_year_rhodes year = rhodes_answer year

abbrev pub bd_year : ℕ → YearAnswer
bd_year year = year_answer year

abbrev pub bd_kind : ℕ → KindAnswer
bd_kind year = kind_answer year

abbrev pub bd_year_of_day : ℕ → YearOfDayAnswer
bd_year_of_day day = year_of_day_answer day

abbrev pub bd_stretch : ℕ → ℕ → StretchAnswer
bd_stretch wing day = wing_stretch wing day

abbrev pub bd_charge_start : ℕ → ℕ → ℕ → ℕ → ℕ → ℕ → ChargeAnswer
bd_charge_start wing day draw capacity rate charge = charge_answer wing day (record { draw = draw; capacity = capacity; rate = rate; charge = charge })

-- The refusal, and the record as it is left.
abbrev pub bd_record_set : DayRecord → ℕ → ℕ → Moved
bd_record_set r wing day = set_to r wing day

abbrev pub bd_record_next : DayRecord → Moved
bd_record_next r = next_of r

abbrev pub bd_record_back : DayRecord → Moved
bd_record_back r = back_of r

abbrev pub bd_fasts : ℕ → List ℕ → ListAnswer
bd_fasts year out = fasts_answer year out

abbrev pub bd_fasts_leaves : ℕ → List ℕ → List ℕ
bd_fasts_leaves year out = fasts_buffer year out

abbrev pub bd_rest_days : ℕ → ℕ → List ℕ → ListAnswer
bd_rest_days wing year out = wing_rest_days wing year out

abbrev pub bd_rest_days_leaves : ℕ → ℕ → List ℕ → List ℕ
bd_rest_days_leaves wing year out = wing_rest_days_buffer wing year out

abbrev pub bd_stretches : ℕ → ℕ → List ℕ → ListAnswer
bd_stretches wing year out = wing_stretches wing year out

abbrev pub bd_stretches_leaves : ℕ → ℕ → List ℕ → List ℕ
bd_stretches_leaves wing year out = wing_stretches_buffer wing year out

abbrev pub bd_sheet_write : ℕ → ℕ → ℕ → List ℕ → ListAnswer
bd_sheet_write wing first years out = wing_sheet wing first years out

abbrev pub bd_sheet_write_leaves : ℕ → ℕ → ℕ → List ℕ → List ℕ
bd_sheet_write_leaves wing first years out = wing_sheet_buffer wing first years out

abbrev pub bd_sheet_rows : ℕ → List ℕ → ℕ → RowsAnswer
bd_sheet_rows wing sheet year = rows_answer wing sheet year

abbrev pub bd_sheets_rows : ℕ → List ℕ → List ℕ → ℕ → RowsAnswer
bd_sheets_rows named one two year = named_answer named one two year

-- The refusal, and the row number left in the walker.
abbrev pub bd_walk_begin : ℕ → List ℕ → Begun
bd_walk_begin wing sheet = begun_at wing sheet

-- The row, and the row number left in the walker.
abbrev pub bd_walk_next : ℕ → List ℕ → Stepped
bd_walk_next walker sheet = step_at sheet walker
