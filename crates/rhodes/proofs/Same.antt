-- Rhodes' route gives the counted New Year, with the same delay for the same cause, for every year while D is above zero;
-- so the two public answers are equal for every argument.
use mathlib.Core.Path.{◌≡◌, refl, sym, ◌∙◌}
use mathlib.Core.Bool.{Bool, true, false}
use mathlib.Core.Logic.{by_cases}
use Prim.Native.Nat.{ℕ, ◌+◌, ◌*◌, ◌-◌, ◌/◌, ◌%◌, ◌≤◌, ◌<◌}
use native.Mathlib.Omega.{arith}
use native.Mathlib.Nat.{mul-add-mod_self_left}
use native.Mathlib.Decide.{dec_le}
use borrow.Author.Tests.{le-leb, lt-leb}
use Rattle.laws.proofs.Tests.{within}
use Rattle.days.specs.Weekday.{weekday}
use Rattle.molad.specs.Years.{last_new_year, out_of_new_years, leap}
use Rattle.molad.specs.Molad.{molad_day, molad_time}
use Rattle.delays.specs.Delays.{delayed}
use Rattle.newyear.specs.NewYear.{delay_in, new_year}
use Rattle.newyear.specs.Answers.{new_year_on, new_year_answer}
use Rattle.rhodes.specs.Rhodes.{place, since_leap, distance, molad_august, molad_part, past_noon, noon_august, noon_part, weekday_of_august, late_by, delay_of, rhodes_delay, day_of_august, rhodes_new_year, rhodes_molad_day, rhodes_molad_time}
use Rattle.rhodes.specs.Answers.{rhodes_answer}
use Rattle.rhodes.proofs.Place.{common, after_leap}
use Rattle.rhodes.proofs.Molad.{above_zero, august_day, same_molad_day, same_molad_time}
use Rattle.rhodes.proofs.Late.{her_delay, same_late_after, same_late_before, whole_delay}

-- Rhodes' weekday of a day of August is that of its day number, Saturday being 0.
pub weekday_august : (h i : ℕ) → 1 ≤ h → weekday_of_august h i ≡ weekday (day_of_august h i) % 7
unfolding weekday_of_august since_leap
weekday_august h i l =
    let q = (h - 1) / 4 in
    let r = (h - 1) % 4 in
    let e : day_of_august h i + 2 ≡ 7 * (207 * q + 51 * r + 49704) + (i + 1 + 5 * r + 3 * h) = omega (arith, august_day h i l) in
    let s : weekday (day_of_august h i) % 7 ≡ (day_of_august h i + 2) % 7 = omega arith in
    rw (s, e) (sym (mul-add-mod_self_left 7 _ _))

module _ (h : ℕ) (l : 1 ≤ h) (z : 0 < distance h) where
  -- The day that comes d days after the molad's, and its weekday.
  on : (d : ℕ) → day_of_august h (molad_august h + d) ≡ molad_day h 1 + d
  unfolding rhodes_molad_day
  on d = omega (arith, august_day h (molad_august h + d) l, august_day h (molad_august h) l, same_molad_day h l z)

  falls : (d : ℕ) → weekday_of_august h (molad_august h + d) ≡ (weekday (molad_day h 1) + d) % 7
  falls d = weekday_august h (molad_august h + d) l ∙ rw (on d) (omega arith)

  -- Where the noon step goes d days on and leaves time f, and the counted delay is those days and hers, the two delays are
  -- one.
  reached :
      (d f : ℕ) (stepped : Bool) → noon_august h ≡ molad_august h + d → noon_part h ≡ f → past_noon (molad_part h) ≡ stepped →
      delayed (weekday (molad_day h 1)) (molad_part h) (leap h) (leap (h - 1)) ≡ her_delay d stepped (place h) ((weekday (molad_day h 1) + d) % 7) f →
      rhodes_delay h ≡ delay_in h
  unfolding rhodes_delay delay_of delay_in rhodes_molad_time
  reached d f stepped a b s e =
      let late = late_by (place h) ((weekday (molad_day h 1) + d) % 7) f in
      let x : molad_august h + d + late - molad_august h ≡ d + late = omega arith in
      rw (← same_molad_time h l z, e, a, b, s, falls d, x)

  -- The same delay, for the same cause.
  pub same_delay : rhodes_delay h ≡ delay_in h
  unfolding noon_august noon_part past_noon molad_part
  same_delay =
      let t = molad_part h in
      let w = weekday (molad_day h 1) in
      by_cases (dec_le 19440 t)
      (λ p.
      let b = le-leb 19440 t p in
      reached 1 (t - 19440) true (rw b) (rw b) b
      (same_late_after (leap h) (leap (h - 1)) (place h) w t (common h l) (after_leap h l) (omega arith) (omega arith) p (omega arith)))
      (λ p.
      let b = lt-leb 19440 t (omega arith) in
      reached 0 t false (rw b (omega arith)) (rw b) b
      (same_late_before (leap h) (leap (h - 1)) (place h) w t (common h l) (after_leap h l) (omega arith) (omega arith) (omega arith)))

  -- The same New Year.
  pub same_new_year : rhodes_new_year h ≡ new_year h
  unfolding rhodes_new_year new_year
  same_new_year = rw (whole_delay h, on (rhodes_delay h).delay, same_delay)

  -- So every field of the two answers is the same.
  pub same_fields :
      new_year_on (rhodes_new_year h) (rhodes_molad_day h) (rhodes_molad_time h) (rhodes_delay h)
      ≡ new_year_on (new_year h) (molad_day h 1) (molad_time h 1) (delay_in h)
  same_fields = rw (same_new_year, same_molad_day h l z, same_molad_time h l z, same_delay)

-- For every year from 1 to 10,000: before any delay the same molad, day and part of the day; then the same delay, for the
-- same cause, and the same New Year.
pub same_route :
    (h : ℕ) → 1 ≤ h → h ≤ last_new_year →
    ((rhodes_molad_day h ≡ molad_day h 1) × (rhodes_molad_time h ≡ molad_time h 1))
    × ((rhodes_delay h ≡ delay_in h) × (rhodes_new_year h ≡ new_year h))
same_route h l u =
    let z = above_zero h u in
    ((same_molad_day h l z, same_molad_time h l z), (same_delay h l z, same_new_year h l z))

-- The two public answers, for every argument.
answers : (h : ℕ) (b : Bool) → out_of_new_years h ≡ b → rhodes_answer h ≡ new_year_answer h
unfolding rhodes_answer new_year_answer
answers h true e = rw e
answers h false e = let w = within 1 last_new_year h e in rw e (same_fields h w.0 (above_zero h w.1))

pub same_answer : (h : ℕ) → rhodes_answer h ≡ new_year_answer h
same_answer h = answers h (out_of_new_years h) refl
