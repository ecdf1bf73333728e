-- The four delays of New Year, as document 01 has them, and their causes, as document 02 asks for them (§7): the molad of
-- Tishri falls on weekday w, 1 Sunday to 7 Saturday, at time t, 0 to 25,919 parts from 18:00. They are stated for every
-- weekday and every time: no year from 1 to 10,000 has a molad exactly on a limit where its rule applies, so that no
-- test over years can tell "at or later" from "later".
use Rattle.std.specs.Prelude.{Bool, ◌&&◌, not, cond, [], ◌∷◌, ℕ, ◌+◌, ◌%◌, eqb, ltb, leb}
use Rattle.laws.specs.Runs.{elem}
use Rattle.molad.specs.Units.{time}
use Rattle.delays.specs.declared.Delayed.{Delayed}

-- Noon, where the day begins at 18:00: 18h 0p.
abbrev pub noon : ℕ
noon = time 18 0

-- At 18h 0p or later the day becomes the next one.
unfoldable pub from_noon : ℕ → Bool
from_noon t = leb noon t

-- A day that is then Sunday, Wednesday or Friday becomes the next one. 8 is the Sunday after a Saturday.
unfoldable pub closed : ℕ → Bool
closed w = elem ((w + 6) % 7 + 1) (1 ∷ 4 ∷ 6 ∷ [])

-- Common year, molad on Tuesday, t at 9h 204p or later and before 18h: New Year is the Thursday.
unfoldable pub tuesday_rule : ℕ → ℕ → Bool → Bool
tuesday_rule w t isLeap = not isLeap && eqb w 3 && leb (time 9 204) t && ltb t noon

-- Year after a leap year, molad on Monday, t at 15h 589p or later and before 18h: New Year is the Tuesday.
unfoldable pub monday_rule : ℕ → ℕ → Bool → Bool
monday_rule w t afterLeap = afterLeap && eqb w 2 && leb (time 15 589) t && ltb t noon

-- The causes, numbered from 0 in the order in which document 02 names them.
abbrev pub no_cause : ℕ
no_cause = 0

abbrev pub noon_cause : ℕ
noon_cause = 1

abbrev pub weekday_cause : ℕ
weekday_cause = 2

abbrev pub noon_then_weekday : ℕ
noon_then_weekday = 3

abbrev pub tuesday_cause : ℕ
tuesday_cause = 4

abbrev pub monday_cause : ℕ
monday_cause = 5

infix 80 ◌days_by◌
abbrev pub ◌days_by◌ : ℕ → ℕ → Delayed
days days_by cause = record { delay = days; cause = cause }

-- What the rules decide: the Tuesday rule; else the Monday rule; else, at noon or later, whether the next day is a Sunday,
-- Wednesday or Friday, and before noon whether this day is.
abbrev pub by_rules : Bool → Bool → Bool → Bool → Bool → Delayed
by_rules tuesday monday past_noon next this =
    cond tuesday (2 days_by tuesday_cause)
    (cond monday (1 days_by monday_cause)
    (cond past_noon
    (cond next (2 days_by noon_then_weekday) (1 days_by noon_cause))
    (cond this (1 days_by weekday_cause) (0 days_by no_cause))))

-- The days from the molad's day to New Year, and their cause.
unfoldable pub delayed : ℕ → ℕ → Bool → Bool → Delayed
delayed w t isLeap afterLeap =
    by_rules (tuesday_rule w t isLeap) (monday_rule w t afterLeap) (from_noon t) (closed (w + 1)) (closed w)
