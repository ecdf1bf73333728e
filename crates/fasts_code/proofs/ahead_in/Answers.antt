use Rattle.std.proofs.Common.{arith, ℕ, ◌+◌, ◌<◌, ◌≤◌}
use mathlib.Core.Path.{◌≡◌, sym, ◌∙◌}
use borrow.Author.Tests.{le-leb, lt-leb}
use native.Mathlib.Numerals.{add-one}
use lib.ListN.{length, drop}
use lib.Seq.{drop-cons}
use Rattle.days.specs.Range.{InRange}
use Rattle.molad.specs.Years.{last_year}
use Rattle.newyear.specs.NewYear.{year_of}
use Rattle.newyear_code.specs.declared.span.Span.{Span}
use Rattle.newyear_code.proofs.Spanned.{span_ends}
use Rattle.hebrew.specs.Rows.{row, row_good}
use Rattle.lists_code.proofs.Rows.{row_passes}
use Rattle.fasts.specs.Fasts.{fast_table, kept_on, fast_day}
use Rattle.fasts.specs.Ahead.{no_fast, ahead_of, ahead_in, fast_ahead}
use Rattle.fasts.proofs.Kept.{table_good}
use Rattle.fasts.proofs.Chosen.{own_stands, next_stands, tishri_falls}
use Rattle.fasts_code.proofs.ahead_in.Goals as goal

pub fast_day-kept-requires : goal.fast_day-kept-requires
fast_day-kept-requires c = row_passes fast_table (row_good c.args.span.length) (table_good _ c.args.span.is_span.measured) _ _ c.loop-row-test.true

pub returns-then-day-kept : goal.returns-then-day-kept
unfolding ahead_in
returns-then-day-kept c =
    let i = c.loop-row.row-index in
    let h : i < length fast_table = c.loop-row-test.true in
    let kept = c.fast_day-kept.result in
    let own = rw (drop-cons fast_table i 0, ← c.fast_day-kept.ensures, le-leb c.args.day kept (omega arith)) at c.loop-row.invariant in
    let e = rw c.requires.1 at own in
    sym e ∙ own_stands c.args.day (rw e)

pub loop-row-preserved : goal.loop-row-preserved
unfolding ahead_in
loop-row-preserved c =
    let i = c.loop-row.row-index in
    let h : i < length fast_table = c.loop-row-test.true in
    c.loop-row.invariant ∙ rw (drop-cons fast_table i 0, ← c.fast_day-kept.ensures, lt-leb c.args.day c.fast_day-kept.result (omega arith), add-one)

-- Where all have been passed the year has none left.
all_passed :
    (h day i : ℕ) → ahead_in (fast_day h) day fast_table ≡ ahead_in (fast_day h) day (drop i fast_table) → i ≡ 5 → h ≡ year_of day →
    ahead_in (fast_day (year_of day)) day fast_table ≡ no_fast
unfolding ahead_in
all_passed h day i e q y = rw y at (rw q at e)

pub returns-then-span-ge-LAST_YEAR : goal.returns-then-span-ge-LAST_YEAR
returns-then-span-ge-LAST_YEAR c =
    let e = all_passed _ _ c.loop-row.row-index c.loop-row.invariant (omega arith) c.requires.1 in
    sym e ∙ own_stands c.args.day (rw (e, ← c.requires.1, le-leb last_year c.args.span.year c.if-span-ge-LAST_YEAR.true))

-- Then it is the next year's first, on this day.
next :
    (span : Span) (day i kept : ℕ) → ahead_in (fast_day span.year) day fast_table ≡ ahead_in (fast_day span.year) day (drop i fast_table) →
    i ≡ 5 → InRange day → span.year ≡ year_of day → span.year < last_year → kept ≡ kept_on 1 (span.new_year + span.length + 2) →
    (fast_ahead day ≡ ahead_of day 1 kept) × (day ≤ kept)
next span day i kept e q r y l k =
    let none = all_passed _ _ i e q y in
    let n : kept ≡ fast_day (year_of day + 1) (row 1 3) = k ∙ rw (span_ends span, y) (sym (tishri_falls (year_of day + 1))) in
    rw n (next_stands day r (rw (none, ← y, lt-leb last_year span.year l)))

pub overflow_sub-result-2 : goal.overflow_sub-result-2
overflow_sub-result-2 c =
    (next c.args.span c.args.day _ _ c.loop-row.invariant (omega arith) c.requires.0 c.requires.1 c.if-span-ge-LAST_YEAR.false c.kept_on.ensures).1

pub returns : goal.returns
returns c =
    sym (next c.args.span c.args.day _ _ c.loop-row.invariant (omega arith) c.requires.0 c.requires.1 c.if-span-ge-LAST_YEAR.false c.kept_on.ensures).0
