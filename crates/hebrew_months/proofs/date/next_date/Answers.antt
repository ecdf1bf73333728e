use mathlib.Core.Path.{◌≡◌}
use mathlib.Core.Bool.{not}
use mathlib.Core.Logic.{by_cases}
use Prim.Native.Nat.{ℕ}
use native.Mathlib.Decide.{dec_lt}
use native.Mathlib.Omega.{arith}
use borrow.Author.Tests.{lt-ltb, le-ltb, le-leb, lt-leb}
use lib.Dec.{leb, ltb}
use Rattle.hebrew.specs.Steps.{tomorrow}
use Rattle.hebrew_months.proofs.date.next_date.Goals as goal

common : (n : ℕ) → ltb n 383 ≡ not (leb 383 n)
common n = by_cases (dec_lt n 383) (λ p. rw (lt-ltb n 383 p, lt-leb 383 n p)) (λ p. rw (le-ltb n 383 (omega arith), le-leb 383 n (omega arith)))

pub returns-then-date-days_in : goal.returns-then-date-days_in
unfolding tomorrow
returns-then-date-days_in c = rw (← c.days_in.ensures, c.if-date-days_in.true)

pub returns : goal.returns
unfolding tomorrow
returns c = rw (← c.days_in.ensures, c.if-date-days_in.false, c.pick.ensures.0, c.is_leap.ensures, common c.args.length)
