-- Each exported call at one good question and at one bad one, as plain numbers, chosen so that they tell it from its neighbours:
-- Julian from Gregorian, month from day, first from length, one wing from the other, the first sheet from the second. The two routes to
-- New Year alone answer alike.
use Rattle.std.specs.Prelude.{◌≡◌, List, [], ◌∷◌, ℕ, ◌≤◌, pos, negsuc, length, take}
use Rattle.fasts.specs.Fixed.{four, six}
use Rattle.rest.specs.Fixed.{fourteen}
use Rattle.record.specs.Fixed.{on, zeros, eve, saturday, sunday}
use Rattle.sheet.specs.Fixed.{sheet_of5775, guest_sheet}
use Rattle.accepted.specs.Fixed.{one, guest}
use Rattle.face.specs.Face.{bd_weekday, bd_julian_to_day, bd_gregorian_to_day, bd_day_to_julian, bd_day_to_gregorian, bd_month_length, bd_hebrew_to_day, bd_day_to_hebrew, bd_molad, bd_notice, bd_new_year, bd_new_year_rhodes, bd_year, bd_kind, bd_year_of_day, bd_stretch, bd_charge_start, bd_record_set, bd_record_next, bd_record_back, bd_fasts, bd_fasts_leaves, bd_rest_days, bd_rest_days_leaves, bd_stretches, bd_stretches_leaves, bd_sheet_write, bd_sheet_write_leaves, bd_sheet_rows, bd_sheets_rows, bd_walk_begin, bd_walk_next}

pub record FaceChecked : Type 0 where
  pub bd_weekday_is : (bd_weekday 2456928 ≡ record { refusal = 0; weekday = 7 }) × (bd_weekday 347997 ≡ record { refusal = 4; weekday = 0 })
  pub bd_julian_to_day_is :
      (bd_julian_to_day (pos 1582) 10 4 ≡ record { refusal = 0; day = 2299160 }) × (bd_julian_to_day (pos 2001) 13 1 ≡ record { refusal = 6; day = 0 })
  pub bd_gregorian_to_day_is :
      (bd_gregorian_to_day (pos 1582) 10 15 ≡ record { refusal = 0; day = 2299161 }) × (bd_gregorian_to_day (pos 1900) 2 29 ≡ record { refusal = 7; day = 0 })
  pub bd_day_to_julian_is :
      (bd_day_to_julian 2299160 ≡ record { refusal = 0; year = pos 1582; month = 10; day = 4 })
      × (bd_day_to_julian 347997 ≡ record { refusal = 4; year = pos 0; month = 0; day = 0 })
  pub bd_day_to_gregorian_is :
      (bd_day_to_gregorian 2299161 ≡ record { refusal = 0; year = pos 1582; month = 10; day = 15 })
      × (bd_day_to_gregorian 4000076 ≡ record { refusal = 4; year = pos 0; month = 0; day = 0 })
  pub bd_month_length_is : (bd_month_length 3 6 ≡ record { refusal = 0; days = 30 }) × (bd_month_length 1 6 ≡ record { refusal = 2; days = 0 })
  pub bd_hebrew_to_day_is : (bd_hebrew_to_day 5762 10 6 ≡ record { refusal = 0; day = 2452412 }) × (bd_hebrew_to_day 5762 2 30 ≡ record { refusal = 3; day = 0 })
  pub bd_day_to_hebrew_is :
      (bd_day_to_hebrew 2452412 ≡ record { refusal = 0; year = 5762; month = 10; day = 6; new_year = 2452171; length = 354; day_of_year = 242 })
      × (bd_day_to_hebrew 4000076 ≡ record { refusal = 4; year = 0; month = 0; day = 0; new_year = 0; length = 0; day_of_year = 0 })
  pub bd_molad_is : (bd_molad 3 6 ≡ record { refusal = 0; day = 348854; hour = 14; part = 521 }) × (bd_molad 1 6 ≡ record { refusal = 2; day = 0; hour = 0; part = 0 })
  pub bd_notice_is :
      (bd_notice 5762 1 ≡ record { refusal = 0; day = 2452170; weekday = 2; hour = 22; minute = 5; part = 16 })
      × (bd_notice 0 1 ≡ record { refusal = 1; day = 0; weekday = 0; hour = 0; minute = 0; part = 0 })
  pub bd_new_year_is :
      (bd_new_year 3 ≡ record { refusal = 0; day = 348708; weekday = 5; molad_day = 348706; molad_hour = 22; molad_part = 876; delay = 2; cause = 3 })
      × (bd_new_year 10001 ≡ record { refusal = 1; day = 0; weekday = 0; molad_day = 0; molad_hour = 0; molad_part = 0; delay = 0; cause = 0 })
  pub bd_new_year_rhodes_is :
      (bd_new_year_rhodes 3 ≡ record { refusal = 0; day = 348708; weekday = 5; molad_day = 348706; molad_hour = 22; molad_part = 876; delay = 2; cause = 3 })
      × (bd_new_year_rhodes 10001 ≡ record { refusal = 1; day = 0; weekday = 0; molad_day = 0; molad_hour = 0; molad_part = 0; delay = 0; cause = 0 })
  pub bd_year_is :
      (bd_year 3 ≡ record { refusal = 0; new_year = 348708; weekday = 5; length = 383; months = 13; delay = 2; cause = 3 })
      × (bd_year 10000 ≡ record { refusal = 1; new_year = 0; weekday = 0; length = 0; months = 0; delay = 0; cause = 0 })
  pub bd_kind_is : (bd_kind 27 ≡ record { refusal = 0; kind = 6; weekday = 3; length = 384 }) × (bd_kind 0 ≡ record { refusal = 1; kind = 0; weekday = 0; length = 0 })
  pub bd_year_of_day_is : (bd_year_of_day 348353 ≡ record { refusal = 0; year = 2 }) × (bd_year_of_day 4000076 ≡ record { refusal = 4; year = 0 })
  pub bd_stretch_is :
      (bd_stretch 2 2452186 ≡ record { refusal = 0; first = 2452185; length = 2; days_left = negsuc 0 })
      × (bd_stretch 1 2452186 ≡ record { refusal = 0; first = 2452189; length = 1; days_left = pos 3 })
      × (bd_stretch 3 2452186 ≡ record { refusal = 15; first = 0; length = 0; days_left = pos 0 })
  pub bd_charge_start_is :
      (bd_charge_start 1 2452188 24000 30000 1000 4000 ≡ record { refusal = 0; start = 58852516; hours = 20; first = 2452189; length = 1 })
      × (bd_charge_start 1 2456942 32000 96000 1000 0 ≡ record { refusal = 0; start = 58966696; hours = 32; first = 2456947; length = 1 })
      × (bd_charge_start 2 2456942 32000 96000 1000 0 ≡ record { refusal = 0; start = 58966632; hours = 96; first = 2456947; length = 3 })
      × (bd_charge_start 1 2452188 24000 30000 1000 30001 ≡ record { refusal = 12; start = 0; hours = 0; first = 0; length = 0 })
  pub bd_record_set_is :
      (bd_record_set zeros 2 2452186 ≡ record { refusal = 0; after = on 2452186 2 5762 1 16 2452185 2 (negsuc 0) 338 4 83 })
      × (bd_record_set eve 3 347997 ≡ record { refusal = 15; after = eve })
  pub bd_record_next_is : (bd_record_next saturday ≡ record { refusal = 0; after = sunday }) × (bd_record_next zeros ≡ record { refusal = 4; after = zeros })
  pub bd_record_back_is : (bd_record_back sunday ≡ record { refusal = 0; after = saturday }) × (bd_record_back zeros ≡ record { refusal = 4; after = zeros })
  pub bd_fasts_is :
      (bd_fasts 5784 six ≡ record { refusal = 0; count = 5 })
      × (bd_fasts_leaves 5784 six ≡ 2460206 ∷ 2460301 ∷ 2460391 ∷ 2460515 ∷ 2460536 ∷ 7 ∷ [])
      × (bd_fasts 5784 four ≡ record { refusal = 10; count = 5 })
      × (bd_fasts_leaves 5784 four ≡ four)
  pub bd_rest_days_is :
      (bd_rest_days 2 5762 fourteen ≡ record { refusal = 0; count = 13 })
      × (bd_rest_days_leaves 2 5762 fourteen
      ≡ 2452171 ∷ 2452172 ∷ 2452180 ∷ 2452185 ∷ 2452186 ∷ 2452192 ∷ 2452193
      ∷ 2452362 ∷ 2452363 ∷ 2452368 ∷ 2452369 ∷ 2452412 ∷ 2452413 ∷ 7 ∷ [])
      × (bd_rest_days 3 5762 fourteen ≡ record { refusal = 15; count = 0 })
      × (bd_rest_days_leaves 3 5762 fourteen ≡ fourteen)
  pub bd_stretches_is :
      ((out : List ℕ) → 120 ≤ length out →
      (bd_stretches 2 5775 out ≡ record { refusal = 0; count = 51 })
      × (take 8 (bd_stretches_leaves 2 5775 out) ≡ 2456926 ∷ 3 ∷ 2456935 ∷ 1 ∷ 2456940 ∷ 3 ∷ 2456947 ∷ 3 ∷ []))
      × (bd_stretches 2 5775 [] ≡ record { refusal = 10; count = 102 })
  pub bd_sheet_write_is :
      ((out : List ℕ) → 1042 ≤ length out →
      (bd_sheet_write 2 5775 3 out ≡ record { refusal = 0; count = 1042 }) × (take 52 (bd_sheet_write_leaves 2 5775 3 out) ≡ guest_sheet))
      × (bd_sheet_write 2 5775 101 [] ≡ record { refusal = 11; count = 0 })
  pub bd_sheet_rows_is :
      (bd_sheet_rows 2 guest 5776 ≡ record { refusal = 0; offset = 346; length = 354 }) × (bd_sheet_rows 2 guest 5778 ≡ record { refusal = 1; offset = 0; length = 0 })
  pub bd_sheets_rows_is :
      (bd_sheets_rows 1 one guest 5775 ≡ record { refusal = 0; offset = 24; length = 318 })
      × (bd_sheets_rows 2 one guest 5776 ≡ record { refusal = 0; offset = 346; length = 354 })
      × (bd_sheets_rows 3 one guest 5775 ≡ record { refusal = 15; offset = 0; length = 0 })
  pub bd_walk_begin_is :
      (bd_walk_begin 1 one ≡ record { refusal = 0; row = 0 }) × (bd_walk_begin 1 [] ≡ record { refusal = 16; row = 18446744073709551615 })
  pub bd_walk_next_is :
      ((bd_walk_next 1 sheet_of5775).row ≡ record { more = 1; first = 2456935; length = 1; wing = 1 }) × ((bd_walk_next 1 sheet_of5775).next ≡ 2)
      × ((bd_walk_next 2 sheet_of5775).row ≡ record { more = 0; first = 0; length = 0; wing = 0 }) × ((bd_walk_next 2 sheet_of5775).next ≡ 2)
