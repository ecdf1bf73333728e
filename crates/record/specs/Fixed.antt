-- The words of this crate, fixed by plain numbers: a promise said in them cannot move with them. A New Year that ran from Thursday to
-- Saturday, entered and left, with the fast moved after it; both wings on 16 Tishri, which the guest wing alone keeps; both ends of
-- the range, and the last fast; each refusal.
use Rattle.std.specs.Prelude.{◌≡◌, [], ◌∷◌, ℕ, ℤ, pos, negsuc}
use Rattle.record.specs.Record.{new_record}
use Rattle.record.specs.Answers.{set_to, next_of, back_of}
use Rattle.record.specs.Promises.{set, next, back, after_all}
use Rattle.record.specs.declared.DayRecord.{DayRecord}
use Rattle.record.specs.declared.Moved.{Moved}

-- A record by its numbers, in their order.
abbrev pub numbered : ℕ → ℕ → ℕ → ℕ → ℕ → ℕ → ℕ → ℤ → ℕ → ℕ → ℕ → ℕ → ℕ → DayRecord
numbered j wing h code d first days left none remaining fast until flag =
    record {
      day = j;
      wing = wing;
      year = h;
      month = code;
      date = d;
      first = first;
      length = days;
      days_left = left;
      none = none;
      remaining = remaining;
      fast_month = fast;
      fast_left = until;
      no_fast = flag;
    }

-- The day and the wing; year, month and date; first day, length and days left of the stretch; days remaining; the month code of
-- the fast ahead, and the days left until it.
abbrev pub on : ℕ → ℕ → ℕ → ℕ → ℕ → ℕ → ℕ → ℤ → ℕ → ℕ → ℕ → DayRecord
on j wing h code d first days left remaining fast until = numbered j wing h code d first days left 0 remaining fast until 0

-- The same without a fast, and without a stretch too: zeros, and the flags.
abbrev pub fastless : ℕ → ℕ → ℕ → ℕ → ℕ → ℕ → ℕ → ℤ → ℕ → DayRecord
fastless j wing h code d first days left remaining = numbered j wing h code d first days left 0 remaining 0 0 1

abbrev pub on_last : ℕ → ℕ → ℕ → ℕ → ℕ → ℕ → DayRecord
on_last j wing h code d remaining = numbered j wing h code d 0 0 (pos 0) 1 remaining 0 0 1

abbrev pub zeros : DayRecord
zeros = numbered 0 0 0 0 0 0 0 (pos 0) 0 0 0 0 0

abbrev pub Done : Moved → DayRecord → Type 0
Done m r = m ≡ record { refusal = 0; after = r }

abbrev pub Refused : Moved → ℕ → DayRecord → Type 0
Refused m n r = m ≡ record { refusal = n; after = r }

-- 29 Elul 5774, a Wednesday; New Year 5775; the Saturday, 3 Tishri; the Sunday after it, to which the fast is moved; and the
-- Monday.
abbrev pub eve : DayRecord
eve = on 2456925 1 5774 13 29 2456926 3 (pos 1) 0 1 4

abbrev pub new_year5775 : DayRecord
new_year5775 = on 2456926 1 5775 1 1 2456926 3 (pos 0) 353 1 3

abbrev pub saturday : DayRecord
saturday = on 2456928 1 5775 1 3 2456926 3 (negsuc 1) 351 1 1

abbrev pub sunday : DayRecord
sunday = on 2456929 1 5775 1 4 2456935 1 (pos 6) 350 1 0

abbrev pub monday : DayRecord
monday = on 2456930 1 5775 1 5 2456935 1 (pos 5) 349 4 94

-- The first day of the range; the last fast, 9 Av 9999, and the day after it; the last Saturday and the last day.
abbrev pub first_of_all : DayRecord
first_of_all = on 347998 1 1 1 1 347998 2 (pos 0) 354 1 2

abbrev pub last_fast : DayRecord
last_fast = on 4000025 1 9999 12 9 4000029 1 (pos 4) 50 12 0

abbrev pub after_fasts : DayRecord
after_fasts = fastless 4000026 1 9999 12 10 4000029 1 (pos 3) 49

abbrev pub last_saturday : DayRecord
last_saturday = fastless 4000071 2 9999 13 25 4000071 1 (pos 0) 4

abbrev pub last_of_all : DayRecord
last_of_all = on_last 4000075 1 9999 13 29 0

-- One that no call made: of a wing that is none.
abbrev pub of_no_wing : DayRecord
of_no_wing = on 2456925 3 5774 13 29 2456926 3 (pos 1) 0 1 4

pub record WordsFixed : Type 0 where
  pub new : new_record ≡ zeros
  pub a_set :
      Done (set_to zeros 1 2456925) eve × Done (set_to zeros 1 2456926) new_year5775
      × Done (set_to eve 1 2456928) saturday × Done (set_to zeros 1 2456929) sunday × Done (set_to zeros 1 2456930) monday
  -- 16 Tishri 5762.
  pub both_wings :
      Done (set_to zeros 1 2452186) (on 2452186 1 5762 1 16 2452189 1 (pos 3) 338 4 83)
      × Done (set_to zeros 2 2452186) (on 2452186 2 5762 1 16 2452185 2 (negsuc 0) 338 4 83)
  pub ends : Done (set_to zeros 1 347998) first_of_all × Done (set_to zeros 2 4000071) last_saturday
  pub last_fasts : Done (set_to zeros 1 4000025) last_fast × Done (set_to zeros 1 4000026) after_fasts
  pub last_four :
      Done (set_to zeros 1 4000072) (on_last 4000072 1 9999 13 26 3) × Done (set_to zeros 2 4000072) (on_last 4000072 2 9999 13 26 3)
      × Done (set_to zeros 1 4000073) (on_last 4000073 1 9999 13 27 2) × Done (set_to zeros 2 4000073) (on_last 4000073 2 9999 13 27 2)
      × Done (set_to zeros 1 4000074) (on_last 4000074 1 9999 13 28 1) × Done (set_to zeros 2 4000074) (on_last 4000074 2 9999 13 28 1)
      × Done (set_to zeros 1 4000075) last_of_all × Done (set_to zeros 2 4000075) (on_last 4000075 2 9999 13 29 0)
  -- Over New Year, over a stretch's end and over a fast, and over the last of each.
  pub moved :
      Done (next_of eve) new_year5775 × Done (next_of saturday) sunday × Done (next_of sunday) monday
      × Done (next_of last_fast) after_fasts × Done (next_of last_saturday) (on_last 4000072 2 9999 13 26 3)
  pub moved_back :
      Done (back_of new_year5775) eve × Done (back_of sunday) saturday × Done (back_of monday) sunday
      × Done (back_of after_fasts) last_fast × Done (back_of (on_last 4000072 2 9999 13 26 3)) last_saturday
  pub called : after_all new_record (next ∷ set 1 2456925 ∷ next ∷ next ∷ set 3 2456925 ∷ next ∷ next ∷ back ∷ []) ≡ saturday
  pub no_wing : Refused (set_to eve 0 2456925) 15 eve × Refused (set_to eve 3 347997) 15 eve × Refused (set_to zeros 0 0) 15 zeros
  pub no_day_is :
      Refused (set_to eve 1 347997) 4 eve × Refused (set_to eve 2 347997) 4 eve × Refused (set_to eve 1 4000076) 4 eve × Refused (set_to eve 2 4000076) 4 eve
  pub no_move :
      Refused (next_of last_of_all) 4 last_of_all × Refused (back_of first_of_all) 4 first_of_all × Refused (next_of zeros) 4 zeros × Refused (back_of zeros) 4 zeros
  pub spoilt : Refused (next_of of_no_wing) 15 of_no_wing × Refused (back_of of_no_wing) 15 of_no_wing
