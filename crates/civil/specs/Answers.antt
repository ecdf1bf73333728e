-- What the public functions answer. Where several refusals apply the smallest number is given: the tests stand in
-- that order, and every other number of a refused answer is 0.
use Rattle.std.specs.Prelude.{not, cond, ℕ, ℤ, pos}
use Rattle.laws.specs.Runs.{outside}
use Rattle.days.specs.Range.{out_of_range}
use Rattle.civil.specs.Signed.{covered, raised, lowered}
use Rattle.civil.specs.Calendar.{Calendar, month_days, day_of}
use Rattle.civil.specs.Date.{date_of}
use Rattle.civil.specs.declared.CivilDay.{CivilDay}
use Rattle.civil.specs.declared.CivilDate.{CivilDate}

abbrev pub no_day : ℕ → CivilDay
no_day n = record { refusal = n; day = 0 }

-- 5: civil year outside −3760..6239. 6: civil month outside 1..12. 7: civil day outside its month.
-- 8: a good civil date whose day lies outside the range.
unfoldable pub civil_day : Calendar → ℤ → ℕ → ℕ → CivilDay
civil_day cal y m d =
    cond (not (covered y)) (no_day 5)
    (cond (outside 1 12 m) (no_day 6)
    (cond (outside 1 (month_days (cal.leap (raised y)) m) d) (no_day 7)
    (cond (out_of_range (day_of cal (raised y) m d)) (no_day 8)
    (record { refusal = 0; day = day_of cal (raised y) m d }))))

abbrev pub no_date : CivilDate
no_date = record { refusal = 4; year = pos 0; month = 0; day = 0 }

-- 4: day number outside the range.
unfoldable pub civil_date : Calendar → ℕ → CivilDate
civil_date cal j =
    cond (out_of_range j) no_date
    (record { refusal = 0; year = lowered (date_of cal j).year; month = (date_of cal j).month; day = (date_of cal j).day })
