-- What holds of the stretches of any table that passes the check, stated on day numbers.
use mathlib.Core.Path.{◌≡◌}
use mathlib.Core.Bool.{Bool, true, false, not}
use mathlib.Core.List.{List}
use mathlib.Core.Logic.{by_cases}
use Prim.Native.Nat.{ℕ, ◌+◌, ◌-◌, ◌%◌, ◌≤◌, ◌<◌}
use native.Mathlib.Omega.{arith}
use native.Mathlib.Decide.{ℕ_discrete, dec_lt, dec_le}
use borrow.Author.Tests.{eq-eqb, not-false}
use Rattle.laws.specs.Search.{Run, seek_not, run_start}
use Rattle.laws.proofs.Tests.{clash}
use Rattle.laws.proofs.Promises.{ranged, let_pass}
use Rattle.laws.proofs.Found.{Seek, seek_tells, start_tells, run_begins, run_around}
use Rattle.days.specs.Range.{first_day, last_day, InRange}
use Rattle.days.specs.Weekday.{weekday}
use Rattle.molad.specs.Years.{last_new_year}
use Rattle.newyear.specs.NewYear.{new_year}
use Rattle.newyear.proofs.YearOf.{last}
use Rattle.rest.specs.Table.{is_rest, rest_day}
use Rattle.rest.specs.Check.{passes}
use Rattle.rest.proofs.RestOfYear.{eve_works, no_four, rest_in_range}
use Rattle.stretch.specs.Stretches.{StretchFor, days_from, next_rest, stretch_first, stretch_past}
use Rattle.stretch.specs.Promises.{StretchAhead}

module _ (table : List ℕ) (ok : passes table ≡ true) where
  abbrev rest : ℕ → Bool
  rest = rest_day table

  -- The range's last day, 29 Elul 9999, is no rest day; so a stretch ends before it.
  last_works : rest last_day ≡ false
  last_works = let e : new_year 10000 - 1 ≡ last_day = rw last (omega arith) in rw e at (eve_works table ok 10000 (omega arith) (omega arith))

  pub ends_in_range : (f c : ℕ) → Run rest f c → f + c ≤ last_day
  ends_in_range f c r =
      let t = r.passes (f + c - 1) (omega (arith, r.some)) (omega (arith, r.some)) in
      let i = rest_in_range table (f + c - 1) t in
      by_cases (ℕ_discrete (f + c - 1) last_day)
      (λ q. absurd (clash (rest last_day) (rw q at t) last_works))
      (λ q. omega (arith, r.some))

  -- A stretch has one to three days.
  pub at_most_three : (f c : ℕ) → Run rest f c → (1 ≤ c) × (c ≤ 3)
  at_most_three f c r = (
    r.some,
    by_cases (dec_lt 3 c)
        (λ p.
        absurd
        (no_four table ok f (r.passes f (omega arith) (omega arith)) (r.passes (f + 1) (omega arith) (omega arith))
        (r.passes (f + 2) (omega arith) (omega arith)) (r.passes (f + 3) (omega arith) (omega arith))))
        (λ p. omega arith),
  )

  -- No stretch crosses a New Year: one that begins before it ends before it.
  pub no_crossing : (f c h : ℕ) → Run rest f c → 1 ≤ h → h ≤ last_new_year → f < new_year h → f + c ≤ new_year h
  no_crossing f c h r l u p =
      by_cases (dec_lt (new_year h) (f + c))
      (λ q. absurd (clash (rest (new_year h - 1)) (r.passes (new_year h - 1) (omega arith) (omega arith)) (eve_works table ok h l u)))
      (λ q. omega arith)

  -- The Saturday on or after a day.
  abbrev sabbath : ℕ → ℕ
  sabbath j = j + (6 - (j + 1) % 7)

  sabbath_rests : (j : ℕ) → first_day ≤ j → sabbath j ≤ last_day → rest (sabbath j) ≡ true
  unfolding rest_day is_rest
  sabbath_rests j l u =
      let s : weekday (sabbath j) ≡ 7 = omega arith in
      let a : first_day ≤ sabbath j = omega arith in rw (let_pass (ranged first_day last_day (sabbath j)) (a, u), eq-eqb _ _ s)

  -- A longest run lies around each rest day.
  module _ (n : ℕ) (e : rest n ≡ true) where
    abbrev past : ℕ
    past = seek_not rest (days_from n) n

    told_past : Seek (λ d. not (rest d)) (days_from n) n past
    unfolding seek_not
    told_past = seek_tells (λ d. not (rest d)) (days_from n) n

    found : past < n + days_from n
    found =
        let i = rest_in_range table n e in
        by_cases (dec_lt past (n + days_from n))
        (λ q. q)
        (λ q. absurd (clash (rest last_day) (not-false _ (told_past.none last_day i.1 (omega arith))) last_works))

    begun : 1 ≤ run_start rest n
    begun =
        let i = rest_in_range table n e in
        by_cases (ℕ_discrete (run_start rest n) 0)
        (λ q. absurd (let z = rest_in_range table 0 ((start_tells rest n).passes 0 (omega arith) (omega arith)) in omega arith))
        (λ q. omega arith)

    pub around : (n < past) × Run rest (run_start rest n) (past - run_start rest n)
    around = run_around rest n (days_from n) e begun found

  module _ (j : ℕ) (i : InRange j) where
    abbrev n : ℕ
    n = next_rest table j

    told : Seek rest (days_from j) j n
    unfolding next_rest
    told = seek_tells rest (days_from j) j

    -- A rest day on or after the day is not before the next one.
    next_first : (d : ℕ) → j ≤ d → rest d ≡ true → n ≤ d
    next_first d l e = by_cases (dec_lt d n) (λ p. absurd (clash (rest d) e (told.none d l p))) (λ p. omega arith)

    -- The next rest day is no more than six days off.
    soon : n ≤ last_day → n ≤ j + 6
    soon p =
        by_cases (dec_le (sabbath j) last_day)
        (λ q. omega (arith, next_first (sabbath j) (omega arith) (sabbath_rests j i.0 q)))
        (λ q. omega arith)

    -- After any day in range but the last four there is a rest day.
    rest_ahead : j ≤ last_day - 4 → n ≤ last_day
    rest_ahead p =
        let q : sabbath j ≤ last_day = omega arith in omega (arith, next_first (sabbath j) (omega arith) (sabbath_rests j i.0 q))

    module _ (p : n ≤ last_day) where
      rests : rest n ≡ true
      rests = told.pass (omega arith)

      -- What is answered is the stretch for the day.
      pub stretch-for : StretchFor table j (stretch_first table j) (stretch_past table j - stretch_first table j)
      unfolding stretch_first stretch_past
      stretch-for =
          let a = around n rests in
          let s = start_tells rest n in
          record {
            a_stretch = a.1;
            not_over = omega (arith, told.low, a.0, s.high);
            earliest = λ f c r l.
                by_cases (dec_lt f j)
                (λ q.
                let o = rest_in_range table f (r.passes f (omega arith) (omega arith)) in
                let e : n ≡ j = omega (arith, told.low, next_first j (omega arith) (r.passes j (omega arith) l)) in
                rw (e, run_begins rest f c j 0 r (omega arith) l (omega arith)) (omega arith))
                (λ q. omega (arith, s.high, next_first f (omega arith) (r.passes f (omega arith) (omega (arith, r.some)))));
          }

      -- Days left are -2 to 6.
      pub days_left : (stretch_first table j ≤ j + 6) × (j ≤ stretch_first table j + 2)
      unfolding stretch_first
      days_left =
          let f = stretch-for in
          let three = at_most_three _ _ f.a_stretch in
          (omega (arith, soon p, (start_tells rest n).high), omega (arith, f.not_over))

    -- So after any of these there is a stretch.
    pub stretch_ahead : j ≤ last_day - 4 → StretchAhead table j
    stretch_ahead p =
        let f = stretch-for (rest_ahead p) in
        record { first = stretch_first table j; days = stretch_past table j - stretch_first table j; a_stretch = f.a_stretch; not_over = f.not_over }

    -- Where there is no rest day ahead no stretch ends on or after the day.
    pub none_ahead : last_day < n → (f c : ℕ) → Run rest f c → j < f + c → ⊥
    none_ahead p f c r l =
        let o = rest_in_range table f (r.passes f (omega arith) (omega (arith, r.some))) in
        by_cases (dec_lt f j)
        (λ q. omega (arith, next_first j (omega arith) (r.passes j (omega arith) l)))
        (λ q. omega (arith, next_first f (omega arith) (r.passes f (omega arith) (omega (arith, r.some)))))
