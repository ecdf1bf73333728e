-- The fast ahead of a day's neighbour.
use mathlib.Core.Path.{◌≡◌, sym, ap, ◌∙◌}
use mathlib.Core.Bool.{false, false≢true}
use mathlib.Core.Logic.{by_cases}
use Prim.Native.Nat.{ℕ, ◌+◌, ◌-◌, ◌<◌}
use native.Mathlib.Omega.{arith}
use native.Mathlib.Decide.{ℕ_discrete, dec_lt}
use Rattle.days.specs.Range.{last_day, InRange}
use Rattle.hebrew.specs.Dates.{date_of}
use Rattle.fasts.specs.Ahead.{FastOn, fast_ahead}
use Rattle.fasts.specs.Steps.{may_fast}
use Rattle.fasts.proofs.Kept.{fast_month, fast_may}
use Rattle.fasts.proofs.Found.{NextFast, none_later, told}

-- The month of a fast is the month of its date; so a day is the fast of one month at most.
pub of_its_month : (code n : ℕ) → FastOn code n → (date_of n).month ≡ code
of_its_month code n f = rw f.kept at (fast_month f.year f.of_years f.fast f.in_table) ∙ f.of_month

-- What is ahead of a day, where there is a next fast.
pub ahead_is : (j code n : ℕ) → InRange j → NextFast j code n → fast_ahead j ≡ record { month = code; left = n - j; none = 0 }
ahead_is j code n i f =
    let t = (told j i).ahead (omega (arith, f.not_past, none_later code n f.a_fast)) in
    let m = (fast_ahead j).month in
    let k = j + (fast_ahead j).left in
    let same : k ≡ n = omega (arith, t.1.1 code n f.a_fast f.not_past, f.nearest m k t.1.0 (omega arith)) in
    let left : (fast_ahead j).left ≡ n - j = omega arith in
    let month : m ≡ code = sym (of_its_month m k t.1.0) ∙ ap (λ (d : ℕ). (date_of d).month) same ∙ of_its_month code n f.a_fast in
    λ x. record { month = month x; left = left x; none = t.0 x }

-- A month tells of a next fast.
pub next_of : (j : ℕ) → InRange j → 0 < (fast_ahead j).month → NextFast j (fast_ahead j).month (j + (fast_ahead j).left)
next_of j i some =
    by_cases (dec_lt (last_day - 50) j)
    (λ l. absurd (omega (arith, ((told j i).last_fifty l).1.0)))
    (λ l.
    let t = ((told j i).ahead (omega arith)).1 in record { a_fast = t.0; not_past = omega arith; nearest = t.1 })

-- A day on it is still the next, unless it was that day's.
pub still_next : (j code n : ℕ) → NextFast j code n → j < n → NextFast (j + 1) code n
still_next j code n f l = record { a_fast = f.a_fast; not_past = omega arith; nearest = λ c m g p. f.nearest c m g (omega arith) }

-- A day back it is the next already, unless on that day's date a fast may be kept.
pub already_next : (j code n : ℕ) → NextFast (j + 1) code n → may_fast (date_of j).month (date_of j).day ≡ false → NextFast j code n
already_next j code n f free =
    record {
      a_fast = f.a_fast;
      not_past = omega (arith, f.not_past);
      nearest =
          λ c m g p.
          by_cases (ℕ_discrete m j)
          (λ q.
          let may = rw (g.kept, q) at (fast_may g.year g.of_years g.fast g.in_table) in
          absurd (false≢true (sym free ∙ may)))
          (λ q. f.nearest c m g (omega arith));
    }
