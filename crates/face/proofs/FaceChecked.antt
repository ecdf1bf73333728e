-- Each exported call, by the numbers that are fixed in the crate that owns its question.
use Rattle.days.proofs.Fixed.{words_fixed as weekdays}
use Rattle.civil.proofs.Fixed.{words_fixed as dates}
use Rattle.molad.proofs.Fixed.{words_fixed as molads}
use Rattle.notice.proofs.Fixed.{words_fixed as notices}
use Rattle.newyear.proofs.Fixed.{words_fixed as years}
use Rattle.rhodes.proofs.Fixed.{words_fixed as routes}
use Rattle.hebrew.proofs.Fixed.{words_fixed as hebrew-dates}
use Rattle.fasts.proofs.Fixed.{words_fixed as fasts}
use Rattle.rest.proofs.Fixed.{words_fixed as rests}
use Rattle.stretch.proofs.Fixed.{words_fixed as stretch}
use Rattle.charger.proofs.Fixed.{words_fixed as charges}
use Rattle.record.proofs.Fixed.{words_fixed as records}
use Rattle.stretches.proofs.Fixed.{words_fixed as stretches}
use Rattle.sheet.proofs.Fixed.{words_fixed as sheets}
use Rattle.loaded.proofs.Fixed.{words_fixed as loads}
use Rattle.face.specs.FaceChecked.{FaceChecked}

pub face_checked : FaceChecked
face_checked =
    record {
      bd_weekday_is = (weekdays.week.2, weekdays.first_day_is.0);
      bd_julian_to_day_is = (dates.julian_days.3.0, dates.no_month_is.1);
      bd_gregorian_to_day_is = (dates.gregorian_days.3.0, dates.no_day_is.3);
      bd_day_to_julian_is = (dates.julian_days.3.1, dates.no_date_is.0);
      bd_day_to_gregorian_is = (dates.gregorian_days.3.1, dates.no_date_is.3);
      bd_month_length_is = (hebrew-dates.lengths.2, hebrew-dates.no_lengths.4);
      bd_hebrew_to_day_is = (hebrew-dates.dates.4.0, hebrew-dates.no_day_is.3);
      bd_day_to_hebrew_is = (hebrew-dates.dates.4.1, hebrew-dates.no_date_is.1);
      bd_molad_is = (molads.molads.2, molads.no_month_is.2);
      bd_notice_is = (notices.wardens, notices.no_year.0);
      bd_new_year_is = (years.causes.2, years.no_new_years.1);
      bd_new_year_rhodes_is = (routes.years.1, routes.outside.1);
      bd_year_is = (years.years.2, years.no_years.1.0);
      bd_kind_is = (years.kinds.5, years.no_years.0.1);
      bd_year_of_day_is = (years.held.2, years.not_held.1);
      bd_stretch_is = (stretch.second_days.1, stretch.second_days.0, stretch.no_wing.1);
      bd_charge_start_is = (charges.friday.0, charges.both_wings.0, charges.both_wings.1, charges.no_figure.6);
      bd_record_set_is = (records.both_wings.1, records.no_wing.1);
      bd_record_next_is = (records.moved.1, records.no_move.2);
      bd_record_back_is = (records.moved_back.1, records.no_move.3);
      bd_fasts_is = (fasts.years.0.0, fasts.years.0.1, fasts.short.0.0, fasts.short.0.1);
      bd_rest_days_is = (rests.guest_wing.0, rests.guest_wing.1, rests.no_wing.1.0, rests.no_wing.1.1);
      bd_stretches_is = (stretches.guest_wing, stretches.short.1.0);
      bd_sheet_write_is = (sheets.guest_wing, sheets.no_years.3.0);
      bd_sheet_rows_is = (loads.rows.1, loads.off_sheet_is.2);
      bd_sheets_rows_is = (loads.named.0, loads.named.1, loads.named.3);
      bd_walk_begin_is = (loads.walk.0, loads.walk.2);
      bd_walk_next_is = (loads.walk.5, loads.walk.6, loads.walk.7, loads.walk.8);
    }
