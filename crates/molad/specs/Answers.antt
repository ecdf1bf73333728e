-- What `molad` answers.
use Rattle.std.specs.Prelude.{cond, ℕ, ◌/◌, ◌%◌}
use Rattle.molad.specs.Units.{parts_in_hour}
use Rattle.molad.specs.Years.{out_of_years, leap}
use Rattle.molad.specs.Molad.{no_month, molad_day, molad_time}
use Rattle.molad.specs.declared.MoladAnswer.{MoladAnswer}

abbrev pub no_molad : ℕ → MoladAnswer
no_molad n = record { refusal = n; day = 0; hour = 0; part = 0 }

abbrev pub molad_on : ℕ → ℕ → MoladAnswer
molad_on h code =
    record {
      refusal = 0;
      day = molad_day h code;
      hour = molad_time h code / parts_in_hour;
      part = molad_time h code % parts_in_hour;
    }

-- Refusal 1: the year lies outside 1..9999. 2: the code lies outside 1..13, or is 6 in a common year.
unfoldable pub molad_answer : ℕ → ℕ → MoladAnswer
molad_answer h code =
    cond (out_of_years h) (no_molad 1)
    (cond (no_month (leap h) code) (no_molad 2)
    (molad_on h code))
