-- Past both refusals the months before the code are in closed form.
use borrow.Author.Rules.{rules}
use mathlib.Core.Path.{◌≡◌}
use mathlib.Core.Bool.{false}
use Prim.Native.Nat.{ℕ, ◌+◌, ◌-◌, ◌≤◌}
use native.Mathlib.Omega.{arith}
use Rattle.laws.proofs.Tests.{within, or_left}
use Rattle.molad.specs.Years.{out_of_years, leap, months_before}
use Rattle.molad.specs.Molad.{no_month, months_of_year_before, molad_parts, molad_day, molad_time}
use Rattle.molad.proofs.Closed.{months_of_year}
use Rattle.molad_code.proofs.asked.molad_of.Goals as goal
use Rattle.molad_code.proofs.asked.molad_of.Goals.{After-pick-skipped}

pub returns-then-no_month : goal.returns-then-no_month
returns-then-no_month c =
    let covered : out_of_years c.args.year ≡ false = search rules in
    rw (covered, ← c.months_before-before.ensures.1.0, ← c.no_month.ensures, c.if-no_month.true) (search rules)

-- The code is a month's, and `skipped` is what it stands above the months of the year before it.
record Placed (months month skipped before of_year : ℕ) : Type 0 where
  counted : months ≡ before
  few : months ≤ 123700
  last : month ≤ 13
  place : of_year + skipped ≡ month

placed :
    (c : After-pick-skipped) →
    let before = c.months_before-before.result in
    let a = c.args in
    Placed before.months a.month c.pick-skipped.result (months_before a.year) (months_of_year_before (leap a.year) a.month)
unfolding no_month
placed c =
    let a = c.args in
    let e = c.months_before-before.ensures in
    let w = within 1 13 a.month (or_left _ _ (rw (c.no_month.ensures) at c.if-no_month.false)) in
    let k = rw e.1.0 at c.pick-skipped.ensures.0 in
    record {
      counted = e.0;
      few = omega arith;
      last = w.1;
      place = rw k (months_of_year (leap a.year) a.month w.0 w.1);
    }

pub returns : goal.returns
unfolding molad_day molad_time molad_parts
returns c =
    let a = c.args in
    let p = placed c.before.before in
    let e = c.months_before-before.ensures in
    let covered : out_of_years a.year ≡ false = search rules in
    let s : c.months_before-before.result.months + a.month - c.pick-skipped.result ≡ months_before a.year + months_of_year_before (leap a.year) a.month = omega arith in
    rw (covered, ← e.1.0, ← c.no_month.ensures, c.if-no_month.false, e.1.0, ← s, c.molad_after.ensures.0, c.molad_after.ensures.1.0) (search rules)

pub overflow_add-before : goal.overflow_add-before
overflow_add-before c = let p = placed c.before in search rules

pub overflow_sub-before : goal.overflow_sub-before
overflow_sub-before c = let p = placed c.before in omega arith

pub molad_after-requires : goal.molad_after-requires
molad_after-requires c = let p = placed c.before in omega arith
