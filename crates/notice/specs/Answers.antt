-- What `notice` answers.
use Rattle.std.specs.Prelude.{cond, ℕ, ◌/◌, ◌%◌}
use Rattle.days.specs.Weekday.{weekday}
use Rattle.molad.specs.Units.{parts_in_hour}
use Rattle.molad.specs.Years.{out_of_years, leap}
use Rattle.molad.specs.Molad.{no_month, molad_day, molad_time}
use Rattle.notice.specs.Clock.{shown_day, clock_hour, minutes, parts_over}
use Rattle.notice.specs.declared.NoticeAnswer.{NoticeAnswer}

abbrev pub no_notice : ℕ → NoticeAnswer
no_notice n = record { refusal = n; day = 0; weekday = 0; hour = 0; minute = 0; part = 0 }

-- The notice of a molad on Hebrew day j at an hour and a part of it. The weekday is that of the day shown.
abbrev pub notice_at : ℕ → ℕ → ℕ → NoticeAnswer
notice_at j hour part =
    record {
      refusal = 0;
      day = shown_day j hour;
      weekday = weekday (shown_day j hour);
      hour = clock_hour hour;
      minute = minutes part;
      part = parts_over part;
    }

-- Refusal 1: the year lies outside 1..9999. 2: the code lies outside 1..13, or is 6 in a common year.
unfoldable pub notice_answer : ℕ → ℕ → NoticeAnswer
notice_answer h code =
    cond (out_of_years h) (no_notice 1)
    (cond (no_month (leap h) code) (no_notice 2)
    (notice_at (molad_day h code) (molad_time h code / parts_in_hour) (molad_time h code % parts_in_hour)))
