-- Rhodes' route to New Year (source 002), in whole numbers as document 01 has it. No month is counted. She starts from
-- the Julian year in which Hebrew year H begins, H − 3761, and finds on which day of its August, counted on past 31, the
-- molad of Tishri falls.
use Rattle.std.specs.Prelude.{Bool, ◌&&◌, cond, [], ◌∷◌, ℕ, ◌+◌, ◌*◌, ◌-◌, ◌/◌, ◌%◌, eqb, ltb, leb}
use Rattle.laws.specs.Runs.{elem}
use Rattle.civil.specs.Calendar.{day_of, julian}
use Rattle.delays.specs.Delays.{no_cause, noon_cause, weekday_cause, noon_then_weekday, tuesday_cause, monday_cause}
use Rattle.delays.specs.declared.Delayed.{Delayed}

-- n = (12H + 5) mod 19: the year's place in the cycle of 19 years, in the order in which their molads come in August.
unfoldable pub place : ℕ → ℕ
place h = (12 * h + 5) % 19

-- r = (H − 1) mod 4: the years since the last Julian leap year.
unfoldable pub since_leap : ℕ → ℕ
since_leap h = (h - 1) % 4

-- D = 20,584,320 + 765,433 × n + 123,120 × r − 1,565 × H: from the start of day 0 of August, which is 31 July, to the
-- molad, in 492,480ths of a day. A part has 19 of them.
unfoldable pub distance : ℕ → ℕ
distance h = 20584320 + 765433 * place h + 123120 * since_leap h - 1565 * h

-- i' and f', the molad: its day of August is D divided by 492,480, and its time in parts is the remainder divided by 19.
unfoldable pub molad_august : ℕ → ℕ
molad_august h = distance h / 492480

unfoldable pub molad_part : ℕ → ℕ
molad_part h = distance h % 492480 / 19

-- The noon step. If f' is 19,440 or more, i = i' + 1 and f = f' − 19,440; else i = i' and f = f'.
unfoldable pub past_noon : ℕ → Bool
past_noon t = leb 19440 t

unfoldable pub noon_august : ℕ → ℕ
noon_august h = cond (past_noon (molad_part h)) (molad_august h + 1) (molad_august h)

unfoldable pub noon_part : ℕ → ℕ
noon_part h = cond (past_noon (molad_part h)) (molad_part h - 19440) (molad_part h)

-- w = (i + 1 + 5r + 3H) mod 7: the weekday of day i of August, Saturday being 0, in this route and nowhere else.
unfoldable pub weekday_of_august : ℕ → ℕ → ℕ
weekday_of_august h i = (i + 1 + 5 * since_leap h + 3 * h) % 7

-- The three lines of the delay: the weekday's by w, Monday's and Tuesday's by n, w and f.
unfoldable pub weekday_line : ℕ → Bool
weekday_line w = elem w (1 ∷ 4 ∷ 6 ∷ [])

unfoldable pub monday_line : ℕ → ℕ → ℕ → Bool
monday_line n w f = eqb w 2 && ltb 11 n && leb 16789 f

unfoldable pub tuesday_line : ℕ → ℕ → ℕ → Bool
tuesday_line n w f = eqb w 3 && ltb 6 n && leb 9924 f

-- 1 if w is 1, 4 or 6; 1 if w = 2, n > 11 and f ≥ 16,789; 2 if w = 3, n > 6 and f ≥ 9,924; else 0.
unfoldable pub late_by : ℕ → ℕ → ℕ → ℕ
late_by n w f =
    cond (weekday_line w) 1
    (cond (monday_line n w f) 1
    (cond (tuesday_line n w f) 2
    0))

unfoldable pub delay_of : ℕ → ℕ
delay_of h = late_by (place h) (weekday_of_august h (noon_august h)) (noon_part h)

-- Which of these steps it was, as document 02 numbers the causes: the line of the weekday, or noon then weekday if there
-- was a noon step; then the lines of Monday and of Tuesday; else the noon step alone, or none.
unfoldable pub cause_by : Bool → ℕ → ℕ → ℕ → ℕ
cause_by stepped n w f =
    cond (weekday_line w) (cond stepped noon_then_weekday weekday_cause)
    (cond (monday_line n w f) monday_cause
    (cond (tuesday_line n w f) tuesday_cause
    (cond stepped noon_cause no_cause)))

-- From the molad's day of August, i', to New Year's, i + delay: so the noon step counts.
unfoldable pub rhodes_delay : ℕ → Delayed
rhodes_delay h =
    record {
      delay = noon_august h + delay_of h - molad_august h;
      cause = cause_by (past_noon (molad_part h)) (place h) (weekday_of_august h (noon_august h)) (noon_part h);
    }

-- The day number of a day of August of Julian year H − 3761, counted on past 31. `civil` counts it, in years raised by
-- 4000.
unfoldable pub day_of_august : ℕ → ℕ → ℕ
day_of_august h d = day_of julian (h + 239) 8 d

-- New Year is day i + delay of August.
unfoldable pub rhodes_new_year : ℕ → ℕ
rhodes_new_year h = day_of_august h (noon_august h + delay_of h)

-- The molad's day, and its time in parts.
unfoldable pub rhodes_molad_day : ℕ → ℕ
rhodes_molad_day h = day_of_august h (molad_august h)

unfoldable pub rhodes_molad_time : ℕ → ℕ
rhodes_molad_time h = molad_part h
