use mathlib.Core.Path.{◌≡◌, ◌∙◌}
use native.Mathlib.Omega.{arith}
use Rattle.hebrew.proofs.Placed.{before_from, before_from_lem}
use Rattle.hebrew_months.proofs.Bits.{bit}
use Rattle.hebrew_months.proofs.months.days_before.Goals as goal

-- The 30 days that keep the difference above zero are taken off last.
pub returns : goal.returns
unfolding before_from
returns c =
    let a = c.args in
    let k = before_from_lem a.length a.month c.requires.0 c.requires.1.0 c.requires.1.1 in
    let e : c.pick.result ≡ before_from a.length a.month =
    rw (c.pick.ensures.0, c.from-short.ensures, c.from-long.ensures, bit _, bit _, c.short_kislev.ensures, c.long_marheshvan.ensures) in
    omega (arith, e ∙ k.0, k.1)
