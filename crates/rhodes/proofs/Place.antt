-- Rhodes' place of a year in the cycle of 19, and the counted months: the place is 18 less the remainder of the months'
-- division, so it tells the leap years.
use mathlib.Core.Path.{◌≡◌, refl}
use mathlib.Core.Bool.{true, not}
use mathlib.Core.Logic.{by_cases}
use Prim.Native.Nat.{ℕ, ◌+◌, ◌*◌, ◌-◌, ◌%◌, ◌≤◌}
use native.Mathlib.Omega.{arith}
use native.Mathlib.Decide.{dec_lt}
use lib.Dec.{eqb, ltb}
use borrow.Author.Tests.{lt-ltb, le-ltb, le-leb, lt-leb}
use Rattle.laws.specs.Runs.{every}
use Rattle.laws.proofs.Tests.{equal}
use Rattle.laws.proofs.Cycle.{cycle_mod}
use Rattle.molad.specs.Years.{leap}
use Rattle.molad.proofs.Closed.{remainder, remainder_cycle, leap_remainder}
use Rattle.rhodes.specs.Rhodes.{place}

-- The test, in one cycle.
sums : every 0 19 (λ g. eqb ((12 * g + 5) % 19 + (235 * g + 13) % 19) 18) ≡ true
unfolding every
sums = refl

module _ (h : ℕ) (l : 1 ≤ h) where
  pub place_remainder : place h + remainder h ≡ 18
  unfolding place
  place_remainder =
      rw (remainder_cycle h l, cycle_mod 12 5 19 h)
      (equal 0 19 (λ g. (12 * g + 5) % 19 + (235 * g + 13) % 19) (λ g. 18) sums (h % 19) (omega arith) (omega arith))

  -- n > 6 in common years.
  pub common : not (leap h) ≡ ltb 6 (place h)
  common =
      let s = place_remainder in
      by_cases (dec_lt 6 (place h))
      (λ p. rw (← (leap_remainder h l).0, lt-ltb 6 (place h) p, lt-leb 12 (remainder h) (omega arith)))
      (λ p. rw (← (leap_remainder h l).0, le-ltb 6 (place h) (omega arith), le-leb 12 (remainder h) (omega arith)))

  -- n > 11 after a leap year.
  pub after_leap : leap (h - 1) ≡ ltb 11 (place h)
  after_leap =
      let s = place_remainder in
      by_cases (dec_lt 11 (place h))
      (λ p. rw (← (leap_remainder h l).1, lt-ltb 11 (place h) p, lt-ltb (remainder h) 7 (omega arith)))
      (λ p. rw (← (leap_remainder h l).1, le-ltb 11 (place h) (omega arith), le-ltb (remainder h) 7 (omega arith)))
