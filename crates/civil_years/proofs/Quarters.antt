-- Periods of w days and a quarter, one after another from a whole day on, each begun on a whole day: the years and the
-- Gregorian centuries that are begun in March, of 365¼ and of 36,524¼ days. Period k begins after w k days and k / 4,
-- rounded down.
use mathlib.Core.Path.{◌≡◌}
use mathlib.Core.Bool.{cond}
use mathlib.Core.Logic.{by_cases}
use Prim.Native.Nat.{ℕ, ◌+◌, ◌*◌, ◌/◌, ◌%◌, ◌<◌}
use native.Mathlib.Omega.{arith}
use native.Mathlib.Decide.{ℕ_discrete, dec_lt}
use borrow.Author.Tests.{eq-eqb, ne_eqb}
use lib.Dec.{eqb}
use Rattle.civil.specs.Calendar.{divisible}

-- k is the last of four exactly if 4 divides k + 1.
pub last_of_four : (k : ℕ) → eqb (k % 4) 3 ≡ divisible 4 (k + 1)
last_of_four k =
    by_cases (ℕ_discrete (k % 4) 3)
    (λ p. rw (eq-eqb _ _ p, eq-eqb ((k + 1) % 4) 0 (omega arith)))
    (λ p. rw (ne_eqb _ _ p, ne_eqb ((k + 1) % 4) 0 (λ z. p (omega arith))))

-- The last quarter of day n lies in period k, r quarters of a day into it.
module _ (w n k r : ℕ) (e : 4 * n + 3 ≡ (4 * w + 1) * k + r) (h : r < 4 * w + 1) where
  pub place : w * k + k / 4 + r / 4 ≡ n
  place = omega arith

  -- The last of every four periods is a day longer.
  pub short : r / 4 < w + cond (divisible 4 (k + 1)) 1 0
  short =
      by_cases (ℕ_discrete ((k + 1) % 4) 0)
      (λ p. rw (eq-eqb _ _ p) (omega arith))
      (λ p. rw (ne_eqb _ _ p)
      (by_cases (dec_lt (r / 4) w)
      (λ q. omega arith)
      (λ q. absurd (p (omega (arith, place))))))
