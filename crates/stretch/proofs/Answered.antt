-- What the steps work out on the days of one year is the stretch on day numbers, for any table that passes the check.
use mathlib.Core.Path.{◌≡◌, refl}
use mathlib.Core.Bool.{Bool, true, false, cond}
use mathlib.Core.Logic.{by_cases}
use Prim.Native.Nat.{ℕ, ◌+◌, ◌-◌, ◌≤◌, ◌<◌}
use native.Mathlib.Omega.{arith}
use native.Mathlib.Decide.{ℕ_discrete, dec_lt}
use borrow.Author.Tests.{lt-ltb, le-ltb, ltb-false}
use lib.Dec.{ltb}
use Rattle.laws.specs.Search.{seek_not, run_start}
use Rattle.laws.proofs.Found.{start_tells}
use Rattle.laws.proofs.Promises.{ranged, let_pass}
use Rattle.days.specs.Range.{first_day, last_day}
use Rattle.newyear.specs.NewYear.{new_year}
use Rattle.newyear.proofs.YearOf.{year_in_range, last}
use Rattle.rest.proofs.RestOfYear.{day_of_year, rest_in_range}
use Rattle.stretch.specs.Stretches.{next_rest, stretch_first, stretch_past}
use Rattle.stretch.specs.Steps.{next_at, first_for, past_for}
use Rattle.stretch.specs.Answers.{no_stretch, stretch_on, stretch_answer}
use Rattle.stretch.proofs.Year.{TableYear, start, len, here, carried, next_year, told, rests_there, next_is, start_same, end_same, start_later, end_later}

-- The answer for day x of the year.
module _ (y : TableYear) (x : ℕ) (d : x < len y) where
  abbrev j : ℕ
  j = start y + x

  abbrev first : ℕ
  first = start y + first_for (here y) (len y) x

  abbrev past : ℕ
  past = start y + past_for (here y) (carried y) (len y) x

  abbrev next : ℕ
  next = next_at (here y) (len y) x

  -- Where a rest day follows in the year.
  module _ (p : next < len y) where
    first_here : first_for (here y) (len y) x ≡ run_start (here y) next
    unfolding first_for
    first_here = rw (lt-ltb next (len y) p)

    past_here : past_for (here y) (carried y) (len y) x ≡ seek_not (here y) (len y - next) next
    unfolding past_for
    past_here = rw (lt-ltb next (len y) p)

  -- Where none follows: the next New Year, or the end of the range.
  module _ (p : len y ≤ next) where
    next_len : start y + next ≡ new_year (y.year + 1)
    next_len = omega (arith, (told y x d).high, next_year y)

    first_next : first ≡ new_year (y.year + 1)
    unfolding first_for
    first_next = rw (le-ltb next (len y) p) (next_year y)

    past_next : past ≡ new_year (y.year + 1) + seek_not (carried y) (len y) 0
    unfolding past_for
    past_next = rw (le-ltb next (len y) p) (omega (arith, next_year y))

  late : ltb last_day (next_rest y.table j) ≡ ltb last_day first
  late =
      rw (next_is y x d)
      (by_cases (dec_lt next (len y))
      (λ p.
      let r = rest_in_range y.table (start y + next) (rests_there y x d p) in
      let f = first_here p in
      let s = (start_tells (here y) next).high in
      rw (le-ltb last_day (start y + next) (omega arith), le-ltb last_day first (omega arith)))
      (λ p. rw (next_len (omega arith), first_next (omega arith))))

  right : first ≤ last_day → (stretch_first y.table j ≡ first) × (stretch_past y.table j ≡ past)
  unfolding stretch_first stretch_past
  right q =
      rw (next_is y x d)
      (by_cases (dec_lt next (len y))
      (λ p. rw (first_here p, past_here p) (start_same y next (omega arith), end_same y next p))
      (λ p.
      let f = first_next (omega arith) in
      let more : y.year ≤ 9998 =
      by_cases (ℕ_discrete y.year 9999) (λ r. let z : new_year (y.year + 1) ≡ last_day + 1 = rw r last in omega arith) (λ r. omega arith) in
      rw (next_len (omega arith), f, past_next (omega arith)) (start_later y more, end_later y more)))

  pub worked_out : stretch_answer y.table j ≡ cond (ltb last_day first) (no_stretch 9) (stretch_on j first past)
  unfolding stretch_answer
  worked_out =
      rw (let_pass (ranged first_day last_day j) (year_in_range j y.year (day_of_year y.year y.low y.high x d)), late)
      (go (ltb last_day first) refl)
    where
      go :
          (b : Bool) → ltb last_day first ≡ b →
          cond b (no_stretch 9) (stretch_on j (stretch_first y.table j) (stretch_past y.table j)) ≡ cond b (no_stretch 9) (stretch_on j first past)
      go true e = refl
      go false e = let r = right (ltb-false _ _ e) in rw (r.0, r.1)
