-- The delays of the two routes and their causes agree, for every weekday and every time of the day.
use mathlib.Core.Path.{◌≡◌, refl}
use mathlib.Core.Bool.{Bool, true, false, not, cond, ◌&&◌, and-false}
use mathlib.Core.List.{List, [], ◌∷◌}
use mathlib.Core.Logic.{by_cases}
use Prim.Native.Nat.{ℕ, ◌+◌, ◌-◌, ◌%◌, ◌≤◌, ◌<◌}
use native.Mathlib.Omega.{arith}
use native.Mathlib.Decide.{dec_le}
use lib.Dec.{eqb, leb, ltb}
use borrow.Author.Tests.{le-leb, lt-leb, le-ltb, lt-ltb}
use Rattle.laws.specs.Runs.{every, either_way}
use Rattle.laws.proofs.Tests.{cond_le, at, whether, all, Each, facts}
use Rattle.delays.specs.Delays.{closed, delayed}
use Rattle.delays.specs.declared.Delayed.{Delayed}
use Rattle.delays.proofs.Late.{alike, are_alike, by_times, by_times_lem}
use Rattle.rhodes.specs.Rhodes.{molad_august, molad_part, past_noon, noon_august, weekday_line, monday_line, tuesday_line, late_by, delay_of, cause_by, rhodes_delay}

-- After the noon step neither the Monday nor the Tuesday line can fire.
pub after_noon : (n w t : ℕ) → t < 25920 → (monday_line n w (t - 19440) ≡ false) × (tuesday_line n w (t - 19440) ≡ false)
unfolding monday_line tuesday_line
after_noon n w t u = (
  rw (lt-leb 16789 (t - 19440) (omega arith)) (simp and-false),
  rw (lt-leb 9924 (t - 19440) (omega arith)) (simp and-false),
)

-- The whole delay by what her steps say: whether there was a noon step, and whether the Monday or the Tuesday line fires.
abbrev by_lines : Bool → ℕ → Bool → Bool → Delayed
by_lines stepped w monday tuesday =
    record {
      delay = cond stepped 1 0 + cond (weekday_line w) 1 (cond monday 1 (cond tuesday 2 0));
      cause = cond (weekday_line w) (cond stepped 3 2) (cond monday 5 (cond tuesday 4 (cond stepped 1 0)));
    }

-- The two routes on one weekday, from noon on and before noon: by whether the year is common, whether it follows a leap
-- year, and whether the time is past the Tuesday and the Monday limit.
tests : ℕ → Bool → Bool → Bool → Bool → List Bool
tests w common afterLeap nine fifteen =
    let day = (w + 0) % 7 in
    alike (by_times w common afterLeap nine fifteen false) (by_lines true ((w + 1) % 7) false false)
    ∷ alike (by_times w common afterLeap nine fifteen true) (by_lines false day (eqb day 2 && afterLeap && fifteen) (eqb day 3 && common && nine)) ∷ []

tests_all : every 1 7 (λ w. either_way (λ a. either_way (λ b. either_way (λ c. either_way (λ d. all (tests w a b c d)))))) ≡ true
unfolding every either_way tests alike closed weekday_line
tests_all = refl

passed : (w : ℕ) → 1 ≤ w → w ≤ 7 → (a b c d : Bool) → Each (tests w a b c d)
passed w l u a b c d =
    facts (tests w a b c d) (whether _ (whether _ (whether _ (whether _ (at 1 7 _ tests_all w l (omega arith)) a) b) c) d)

-- The d days of the noon step and her delay, and the cause of both.
abbrev pub her_delay : ℕ → Bool → ℕ → ℕ → ℕ → Delayed
her_delay d stepped n w f = record { delay = d + late_by n w f; cause = cause_by stepped n w f }

module _ (isLeap afterLeap : Bool) (n w t : ℕ) (c : not isLeap ≡ ltb 6 n) (a : afterLeap ≡ ltb 11 n) (l : 1 ≤ w) (u : w ≤ 7) where
  -- From noon on.
  pub same_late_after : 19440 ≤ t → t < 25920 → delayed w t isLeap afterLeap ≡ her_delay 1 true n ((w + 1) % 7) (t - 19440)
  unfolding tests late_by cause_by
  same_late_after p b =
      let k = after_noon n ((w + 1) % 7) t b in
      rw (by_times_lem w t isLeap afterLeap, le-ltb t 19440 p, k.0, k.1)
      (are_alike _ _ (passed w l u (not isLeap) afterLeap (leb 9924 t) (leb 16789 t)).0)

  -- Before noon.
  pub same_late_before : t < 19440 → delayed w t isLeap afterLeap ≡ her_delay 0 false n ((w + 0) % 7) t
  unfolding tests late_by cause_by monday_line tuesday_line
  same_late_before p =
      rw (by_times_lem w t isLeap afterLeap, lt-ltb t 19440 p, c, a)
      (are_alike _ _ (passed w l u (ltb 6 n) (ltb 11 n) (leb 9924 t) (leb 16789 t)).1.0)

-- Each line fires at its very limit, and not one part earlier, nor one place in the cycle.
pub at_her_limits :
    ((past_noon 19440 ≡ true) × (past_noon 19439 ≡ false))
    × (((late_by 12 2 16789 ≡ 1) × ((late_by 12 2 16788 ≡ 0) × (late_by 11 2 16789 ≡ 0)))
    × ((late_by 7 3 9924 ≡ 2) × ((late_by 7 3 9923 ≡ 0) × (late_by 6 3 9924 ≡ 0))))
unfolding past_noon late_by weekday_line monday_line tuesday_line
at_her_limits = ((refl, refl), ((refl, (refl, refl)), (refl, (refl, refl))))

-- Rhodes' delay has at most two days.
pub late_at_most_two : (n w f : ℕ) → late_by n w f ≤ 2
unfolding late_by
late_at_most_two n w f =
    cond_le (weekday_line w) 1 _ 2 (omega arith)
    (cond_le (monday_line n w f) 1 _ 2 (omega arith) (cond_le (tuesday_line n w f) 2 0 2 (omega arith) (omega arith)))

-- The noon step without a branch: what is taken off the time is no more than the time.
pub noon_part_lem : (t : ℕ) → (cond (past_noon t) 19440 0 ≤ t) × (t - cond (past_noon t) 19440 0 ≡ cond (past_noon t) (t - 19440) t)
unfolding past_noon
noon_part_lem t =
    by_cases (dec_le 19440 t)
    (λ p. rw (le-leb 19440 t p) (p, refl))
    (λ p. rw (lt-leb 19440 t (omega arith)) (omega arith))

-- It does not go back.
pub noon_step : (h : ℕ) → molad_august h ≤ noon_august h
unfolding noon_august
noon_step h = step (past_noon (molad_part h))
  where
    step : (b : Bool) → molad_august h ≤ cond b (molad_august h + 1) (molad_august h)
    step true = omega arith
    step false = omega arith

-- The whole delay leads from the molad's day of August to New Year's.
pub whole_delay : (h : ℕ) → noon_august h + delay_of h ≡ molad_august h + (rhodes_delay h).delay
unfolding rhodes_delay
whole_delay h = omega (arith, noon_step h)
