-- What a molad that is not refused tells of its notice, and of the day.
use mathlib.Core.Path.{◌≡◌}
use mathlib.Core.Bool.{false}
use Prim.Native.Nat.{ℕ, ◌/◌, ◌%◌, ◌≤◌}
use native.Mathlib.Omega.{arith}
use Rattle.laws.proofs.Tests.{within}
use Rattle.molad.specs.Units.{parts_in_hour}
use Rattle.molad.specs.Years.{last_year, out_of_years, leap}
use Rattle.molad.specs.Molad.{no_month, molad_day, molad_time}
use Rattle.molad.proofs.Answers.{months_caught}
use Rattle.notice.specs.Answers.{notice_at, notice_answer}
use Rattle.notice.proofs.Days.{from_first_day, day_near}

pub record Given (h code : ℕ) : Type 0 where
  pub notice : notice_at (molad_day h code) (molad_time h code / parts_in_hour) (molad_time h code % parts_in_hour) ≡ notice_answer h code
  pub later : 1 ≤ molad_day h code
  pub near : molad_day h code ≤ 4001400

pub given : (h code : ℕ) → out_of_years h ≡ false → no_month (leap h) code ≡ false → Given h code
unfolding notice_answer
given h code year month =
    record {
      notice = rw (year, month);
      later = omega (arith, from_first_day h code);
      near = day_near h code (within 1 last_year h year) ((months_caught (leap h) code).passes month);
    }
