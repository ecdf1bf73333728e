use Rattle.hebrew.specs.Months.{month_length}
use Rattle.hebrew_months.proofs.months.days_in.Goals as goal

pub returns-then-long_marheshvan : goal.returns-then-long_marheshvan
unfolding month_length
returns-then-long_marheshvan c = rw (c.in-2.is, ← c.long_marheshvan.ensures, c.if-long_marheshvan.true)

pub returns-else-long_marheshvan : goal.returns-else-long_marheshvan
unfolding month_length
returns-else-long_marheshvan c = rw (c.in-2.is, ← c.long_marheshvan.ensures, c.if-long_marheshvan.false)

pub returns-then-short_kislev : goal.returns-then-short_kislev
unfolding month_length
returns-then-short_kislev c = rw (c.in-3.is, ← c.short_kislev.ensures, c.if-short_kislev.true)

pub returns-else-short_kislev : goal.returns-else-short_kislev
unfolding month_length
returns-else-short_kislev c = rw (c.in-3.is, ← c.short_kislev.ensures, c.if-short_kislev.false)

pub returns-then-is_leap : goal.returns-then-is_leap
unfolding month_length
returns-then-is_leap c = rw (c.in-6.is, ← c.is_leap.ensures, c.if-is_leap.true)

pub returns-else-is_leap : goal.returns-else-is_leap
unfolding month_length
returns-else-is_leap c = rw (c.in-6.is, ← c.is_leap.ensures, c.if-is_leap.false)
