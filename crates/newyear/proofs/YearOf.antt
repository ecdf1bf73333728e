-- Each day in range lies in exactly one year.
use mathlib.Core.Path.{◌≡◌}
use mathlib.Core.Bool.{Bool, true, false, cond}
use mathlib.Core.Logic.{by_cases}
use Prim.Native.Nat.{ℕ, ◌+◌, ◌*◌, ◌-◌, ◌/◌, ◌≤◌, ◌<◌}
use native.Mathlib.Omega.{arith}
use native.Mathlib.Decide.{dec_lt, ℕ_discrete}
use lib.Dec.{ltb}
use borrow.Author.Tests.{ltb-true, ltb-false}
use Rattle.laws.proofs.Counted.{begun_is}
use Rattle.days.specs.Range.{first_day, last_day, InRange}
use Rattle.molad.specs.Years.{last_year, last_new_year}
use Rattle.newyear.specs.NewYear.{new_year, year_of, InYear}
use Rattle.newyear.proofs.Quick.{quick, new_year_quick}
use Rattle.newyear.proofs.Lengths.{near}
use Rattle.newyear.proofs.Rise.{rise_le}

-- New Year 1 is the first day; New Year 10,000 is the day after the last.
pub first : new_year 1 ≡ first_day
unfolding quick
first = new_year_quick 1 (omega arith)

pub last : new_year last_new_year ≡ last_day + 1
unfolding quick
last = new_year_quick last_new_year (omega arith)

-- A day of a year lies in the range.
pub year_in_range : (j h : ℕ) → InYear j h → InRange j
year_in_range j h i = (
  omega (arith, first, rise_le 1 h (omega arith) i.low (omega (arith, i.high)), i.from),
  omega (arith, last, rise_le (h + 1) last_new_year (omega arith) (omega (arith, i.high)) (omega arith), i.before),
)

-- The year that holds a day is the only one that it lies in.
pub year_is : (j h : ℕ) → InYear j h → year_of j ≡ h
unfolding year_of
year_is j h i =
    begun_is new_year last_year j h (λ a b l p u. rise_le a b l p (omega arith))
    (record { some = i.low; within = i.high; from = i.from; next = λ _. i.before })

-- The guess in years of 365¼ days is the year before, or the year itself.
module _ (j : ℕ) (lo : first_day ≤ j) (hi : j ≤ last_day) where
  abbrev pub guess : ℕ
  guess = (j - 347700) * 4 / 1461

  pub guess_is : j < new_year (guess + 1) → InYear j guess
  guess_is p =
      let one : 1 ≤ guess =
      by_cases (ℕ_discrete guess 0) (λ q. let e : new_year (guess + 1) ≡ first_day = rw q first in omega arith) (λ q. omega arith) in
      record { low = one; high = omega arith; from = omega (arith, (near guess one (omega arith)).1); before = p }

  pub next_is : new_year (guess + 1) ≤ j → InYear j (guess + 1)
  next_is p =
      let most : guess + 1 ≤ last_year =
      by_cases (ℕ_discrete guess last_year) (λ q. let e : new_year (guess + 1) ≡ last_day + 1 = rw q last in omega arith) (λ q. omega arith) in
      record {
        low = omega arith;
        high = most;
        from = p;
        before = omega (arith, (near (guess + 1 + 1) (omega arith) (omega arith)).0);
      }

  -- The year that holds day j holds it.
  pub held : InYear j (year_of j)
  held =
      by_cases (dec_lt j (new_year (guess + 1)))
      (λ p. let i = guess_is p in rw (year_is j guess i) i)
      (λ p. let i = next_is (omega arith) in rw (year_is j (guess + 1) i) i)

-- What the New Year after the guess g tells: is the day before it, the year is g and that New Year the next one; else the
-- year is g + 1 and that New Year its own.
pub record Told (j g : ℕ) (early : Bool) : Type 0 where
  pub year : cond early g (g + 1) ≡ year_of j
  pub told : new_year (g + 1) ≡ new_year (cond early (year_of j + 1) (year_of j))
  pub other : cond early g (g + 2) ≡ cond early (year_of j) (year_of j + 1)

pub tells : (j : ℕ) (lo : first_day ≤ j) (hi : j ≤ last_day) (early : Bool) → ltb j (new_year (guess j lo hi + 1)) ≡ early → Told j (guess j lo hi) early
tells j lo hi true e =
    let y = year_is j (guess j lo hi) (guess_is j lo hi (ltb-true _ _ e)) in
    record { year = rw y; told = rw y; other = rw y }
tells j lo hi false e =
    let y = year_is j (guess j lo hi + 1) (next_is j lo hi (ltb-false _ _ e)) in
    record { year = rw y; told = rw y; other = rw y (omega arith) }
