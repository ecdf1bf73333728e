-- The New Year that told the year and the other one are, either way round, its own and the next.
use mathlib.Core.Path.{◌≡◌, ◌∙◌}
use mathlib.Core.Bool.{Bool, true, false, cond}
use Prim.Native.Nat.{ℕ, ◌+◌}
use native.Mathlib.Omega.{arith}
use Rattle.molad.specs.Years.{InYears, InNewYears}
use Rattle.newyear.specs.NewYear.{new_year, year_of}
use Rattle.newyear.proofs.Lengths.{rises}
use Rattle.newyear.proofs.YearOf.{held}
use Rattle.newyear_code.proofs.Spanned.{spans}
use Rattle.newyear_code.proofs.span.year_holding.Goals as goal
use Rattle.newyear_code.proofs.span.year_holding.Goals.{After-pick}

module _ (y : ℕ) where
  in_new_years : (early : Bool) → InYears y → InNewYears (cond early y (y + 1))
  in_new_years true i = omega arith
  in_new_years false i = omega arith

  module _ (told other : ℕ) where
    own : (early : Bool) (n : ℕ) → told ≡ new_year (cond early (y + 1) y) → other ≡ new_year (cond early y (y + 1)) → n ≡ cond early other told → n ≡ new_year y
    own true n t o e = e ∙ o
    own false n t o e = e ∙ t

    next : (early : Bool) (n : ℕ) → told ≡ new_year (cond early (y + 1) y) → other ≡ new_year (cond early y (y + 1)) → n ≡ cond early told other → n ≡ new_year (y + 1)
    next true n t o e = e ∙ t
    next false n t o e = e ∙ o

ends : (c : After-pick) → let y = year_of c.args.day in (c.pick-new_year.result ≡ new_year y) × (c.pick.result ≡ new_year (y + 1))
ends c =
    let f = c.year_of-found in
    let k = f.ensures in
    let y = year_of c.args.day in
    let other : c.begins-other.result.new_year ≡ new_year (cond f.result.early y (y + 1)) = rw (← k.other) c.begins-other.ensures.day in
    (own y _ _ f.result.early _ k.told other c.pick-new_year.ensures.0, next y _ _ f.result.early _ k.told other c.pick.ensures.0)

pub begins-other-requires : goal.begins-other-requires
begins-other-requires c =
    let i = held c.args.day (omega arith) (omega arith) in
    rw c.year_of-found.ensures.other (in_new_years (year_of c.args.day) c.year_of-found.result.early (omega arith))

pub overflow_sub-result : goal.overflow_sub-result
overflow_sub-result c =
    let i = held c.args.day (omega arith) (omega arith) in
    let e = ends c in
    omega (arith, e.0, e.1, rises (year_of c.args.day) i.low (omega arith))

pub invariant_of-result : goal.invariant_of-result
invariant_of-result c =
    let y = year_of c.args.day in
    let i = held c.args.day (omega arith) (omega arith) in
    let e = ends c in
    record { is_span = rw c.year_of-found.ensures.year (spans y _ _ i.low i.high e.0 (rw (e.0, e.1))) }
