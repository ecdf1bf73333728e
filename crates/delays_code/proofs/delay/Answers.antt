-- Straight line: each test is 1 or 0, and what they add up to is what the rules say.
use mathlib.Core.Path.{◌≡◌, refl}
use mir.Val.{bool_byte}
use mathlib.Core.Bool.{Bool, true, not, ◌&&◌}
use mathlib.Core.List.{List, [], ◌∷◌}
use Prim.Native.Nat.{ℕ, ◌+◌, ◌*◌, ◌/◌, ◌%◌, ◌^◌, ◌≤◌}
use native.Mathlib.Omega.{arith}
use lib.Dec.{eqb, ltb, leb}
use borrow.Author.Tests.{leb-true}
use Rattle.laws.specs.Runs.{every, either_way}
use Rattle.laws.proofs.Tests.{at, whether, all, Each, facts}
use Rattle.delays.specs.Delays.{closed}
use Rattle.delays.specs.declared.Delayed.{Delayed}
use Rattle.delays.proofs.Late.{alike, are_alike, by_times, by_times_lem, noon_or_before}
use Rattle.delays_code.proofs.delay.Goals as goal

-- 1 where a delay applies, else 0.
abbrev one : Bool → ℕ
one test = bool_byte test

-- The bit of a day, of those that are closed.
abbrev bit : ℕ → ℕ
bit day = 338 / 2 ^ day % 2

-- What the four add up to, by what the tests of the time say.
abbrev sums : ℕ → Bool → Bool → Bool → Bool → Bool → Delayed
sums w common afterLeap nine fifteen beforeNoon =
    let noon = one (not beforeNoon) in
    let weekday = bit (w + noon) in
    let tuesday = one (common && eqb w 3 && nine && beforeNoon) in
    let monday = one (afterLeap && eqb w 2 && fifteen && beforeNoon) in
    record { delay = noon + weekday + 2 * tuesday + monday; cause = noon + 2 * weekday + 4 * tuesday + 5 * monday }

tests : ℕ → Bool → Bool → Bool → Bool → Bool → List Bool
tests w common afterLeap nine fifteen beforeNoon =
    let late = sums w common afterLeap nine fifteen beforeNoon in
    alike late (by_times w common afterLeap nine fifteen beforeNoon) ∷ leb late.delay 2 ∷ []

tests_all : every 1 7 (λ w. either_way (λ a. either_way (λ b. either_way (λ c. either_way (λ d. either_way (λ e. all (tests w a b c d e))))))) ≡ true
unfolding every either_way tests alike closed
tests_all = refl

passed : (w : ℕ) → 1 ≤ w → w ≤ 7 → (a b c d e : Bool) → Each (tests w a b c d e)
passed w l u a b c d e =
    facts (tests w a b c d e)
    (whether _ (whether _ (whether _ (whether _ (whether _ (at 1 7 _ tests_all w l (omega arith)) a) b) c) d) e)

pub returns : goal.returns
unfolding tests
returns c =
    let a = c.args in
    let p = passed a.weekday c.requires.0 c.requires.1 (not a.leap) a.after_leap (leb 9924 a.time) (leb 16789 a.time) (ltb a.time 19440) in
    rw (c.from-monday.ensures, c.from-tuesday.ensures, c.from-noon.ensures, by_times_lem a.weekday a.time a.leap a.after_leap, noon_or_before a.time)
    (are_alike _ _ p.0, leb-true _ _ p.1.0)
