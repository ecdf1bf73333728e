-- Which date a loop over a walk has at hand, and when it ends.
use mathlib.Core.Path.{◌≡◌, refl, sym, ◌∙◌, ap}
use mathlib.Core.List.{List}
use Prim.Native.Nat.{ℕ, zero, suc, ◌+◌, ◌<◌}
use native.Mathlib.Omega.{arith}
use lib.ListN.{length, get_or}
use Rattle.std.proofs.Common.{Option, Some, None}
use Rattle.std.specs.Iterator.{Yields, YieldsFirst}
use Rattle.std.proofs.lemmas.Iterator.Consumers.{YieldsList-from_first, YieldsList-turn, YieldsList-end}
use Rattle.hebrew.specs.Steps.{year_date}
use Rattle.hebrew.specs.declared.YearDate.{YearDate}
use Rattle.year_dates.specs.Walk.{dates}
use Rattle.year_dates.specs.Left.{left}
use Rattle.year_dates.specs.declared.walk.Dates.{Dates}

pub dates_long : (len x n : ℕ) → length (dates len x n) ≡ n
unfolding dates
dates_long len x zero = refl
dates_long len x (suc n) = ap suc (dates_long len (suc x) n)

pub date_at : (len x n i : ℕ) (d : YearDate) → i < n → get_or (dates len x n) i d ≡ year_date len (x + i)
unfolding dates
date_at len x zero i d h = absurd (omega arith)
date_at len x (suc n) zero d h = let z : x + 0 ≡ x = omega arith in rw z
date_at len x (suc n) (suc i) d h =
    let s : suc x + i ≡ x + suc i = omega arith in
    rw s at (date_at len (suc x) n i d (omega arith))

-- A loop over the n dates from day x on, which has had these dates.
module _
    (len x n : ℕ) (walk begun : Dates) (w : left walk ≡ dates len x n) (b : begun ≡ walk)
    (past : List YearDate) (now : Dates) (y : Yields (YieldsFirst left) begun past now) (told : Option YearDate) (after : Dates) where
  pub turn :
      (date : YearDate) → told ≡ Some date → YieldsFirst left now told after →
      (length past < n) × (date.after ≡ x + length past) × (date ≡ year_date len date.after)
  unfolding year_date
  turn date is p =
      let t = YieldsList-turn (YieldsList-from_first (λ d. d) left (dates len x n) (ap left b ∙ w)) past now y told after date is p in
      let l : length past < n = omega (arith, t.0, dates_long len x n) in
      let e = t.1 ∙ date_at len x n (length past) date l in
      let a = ap (λ (d : YearDate). d.after) e in
      (l, a, e ∙ ap (year_date len) (sym a))

  pub ended : told ≡ None → YieldsFirst left now told after → length past ≡ n
  ended is p =
      let t = YieldsList-end (YieldsList-from_first (λ d. d) left (dates len x n) (ap left b ∙ w)) past now y told after is p in
      t.1 ∙ dates_long len x n
