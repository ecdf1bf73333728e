use mathlib.Core.Path.{◌≡◌, ◌∙◌, sym}
use Rattle.hebrew.proofs.Placed.{month_from, month_from_lem, month_is}
use Rattle.hebrew_months.proofs.Bits.{bit}
use Rattle.hebrew_months.proofs.date.month_of.Goals as goal

pub returns : goal.returns
unfolding month_from
returns c =
    let a = c.args in
    let i = month_from_lem a.length a.x c.requires.0 c.requires.1 in
    let e : c.pick.result ≡ month_from a.length a.x =
    rw (
      c.pick.ensures.0,
      c.pick-after_shevat.ensures.0,
      c.is_leap.ensures,
      c.from-short.ensures,
      c.from-long.ensures,
      bit _,
      bit _,
      c.short_kislev.ensures,
      c.long_marheshvan.ensures,
    ) in
    (e ∙ sym (month_is _ _ _ i), rw e (i.low, i.high))
