-- Day by day the buffer holds the runs that have ended over its start. Those that have ended by the year's end are the
-- year's list.
use Rattle.std.proofs.Common.{arith, rules, Bool, true, false, not, ◌&&◌, ℕ, ◌+◌, ◌-◌, ◌≤◌, ◌<◌}
use mathlib.Core.Path.{◌≡◌, refl, sym, ◌∙◌, ap}
use mathlib.Core.List.{[], ◌∷◌}
use lib.Dec.{ltb}
use lib.ListN.{length, length-append, length-set}
use Rattle.laws.specs.Buffer.{overwrite}
use Rattle.laws.specs.Search.{run_start}
use Rattle.laws.proofs.Stores.{over_two}
use Rattle.days.specs.Weekday.{weekday}
use Rattle.newyear.specs.Kinds.{kind_of, kind_code, IsKind}
use Rattle.newyear.proofs.Lengths.{kind_in}
use Rattle.hebrew.specs.Steps.{year_date}
use Rattle.hebrew.specs.declared.YearDate.{YearDate}
use Rattle.year_dates.proofs.Turns.{turn, ended as walk_ended}
use Rattle.rest.specs.Wings.{table_of}
use Rattle.rest.specs.Steps.{rest_on, rest_at}
use Rattle.rest.proofs.Passed.{tables_pass}
use Rattle.rest_table.specs.Wing.{number_of}
use Rattle.rest_table.specs.declared.wings.Wing.{Wing}
use Rattle.newyear_code.specs.declared.span.Span.{Span}
use Rattle.stretches.specs.Promises.{stretches_room}
use Rattle.stretches.specs.Steps.{run_before, rows_at}
use Rattle.stretches.proofs.Ended.{stretches_same}
use Rattle.stretches.proofs.Growing.{ends, run_more, run_few, rows_yes, rows_no, rows_grow}
use Rattle.stretches.proofs.OfKind.{rows_in_room}
use Rattle.stretch.proofs.Walk.{walked_small, walked_rests}
use Rattle.stretches_code.proofs.rows.year_rows.Goals as goal
use Rattle.stretches_code.proofs.rows.year_rows.Goals.{then-rests-run, else-rests-run}

-- In the year of the span, whose New Year falls on weekday w.
module _ (wing : Wing) (span : Span) (w : ℕ) where
  -- Its rest days, counted from New Year.
  abbrev resting : ℕ → Bool
  resting = rest_at (table_of (number_of wing)) w span.length

  -- The runs that have ended by day k have room, as those of the whole year have.
  room_so_far : (k : ℕ) → w ≡ weekday span.new_year → k ≤ span.length → length (rows_at resting span.new_year k) ≤ stretches_room
  unfolding kind_of
  room_so_far k q p =
      let e = span.is_span in
      let kind : IsKind (kind_code w span.length) = rw (q, e.days, e.begins) (kind_in span.year e.first (omega (arith, e.last))) in
      let s : k + (span.length - k) ≡ span.length = omega arith in
      omega
      (arith, rw s at (rows_grow resting span.new_year k (span.length - k)), rows_in_room (number_of wing) w span.length e.measured kind span.new_year)

  -- Is the date at hand a rest day, and has a run ended on the day before it?
  told :
      (date : YearDate) (rests : Bool) → date ≡ year_date span.length date.after → rests ≡ rest_on (table_of (number_of wing)) w date →
      resting date.after ≡ rests
  told date rests d e = sym (e ∙ walked_rests span.length date d (table_of (number_of wing)) w)

  ended : (k run : ℕ) (rests b : Bool) → resting k ≡ rests → run ≡ run_before resting k → not rests && ltb 0 run ≡ b → ends resting k ≡ b
  ended k run rests b t r e = rw (t, ← r) e

  -- Where one has there is room for it.
  room :
      (k n : ℕ) → w ≡ weekday span.new_year → k < span.length → n ≡ length (rows_at resting span.new_year k) → ends resting k ≡ true →
      n + 2 ≤ stretches_room
  room k n q p m e =
      let y = simp length-append at (ap length (rows_yes resting span.new_year k e)) in
      omega (arith, room_so_far (k + 1) q (omega arith), m)

pub loop-date-init : goal.loop-date-init
unfolding overwrite rows_at run_before run_start
loop-date-init c = (refl, refl, refl, omega arith, omega arith)

pub rest_on-rests-requires : goal.rest_on-rests-requires
rest_on-rests-requires c =
    let t =
    turn _ _ _ _ _ c.dates_from-date-items.ensures c.into_iter-date-iterator.ensures.into_iter_gives c.loop-date.yielded _ c.loop-date.yielded_by _ _ _ c.in-Some.is
    c.next.ensures.steps in
    (omega (arith, c.weekday_of-weekday.ensures), walked_small c.args.span.length c.in-Some.date t.2 c.args.span.is_span.measured (omega (arith, t.0, t.1)))

pub overflow_add-out : goal.overflow_add-out
overflow_add-out c =
    let t =
    turn _ _ _ _ _ c.dates_from-date-items.ensures c.into_iter-date-iterator.ensures.into_iter_gives c.loop-date.yielded _ c.loop-date.yielded_by _ _ _ c.in-Some.is
    c.next.ensures.steps in
    let s = walked_small c.args.span.length c.in-Some.date t.2 c.args.span.is_span.measured (omega (arith, t.0, t.1)) in
    let m = c.args.span.is_span.small in search rules

pub overflow_sub-out : goal.overflow_sub-out
overflow_sub-out c =
    let t =
    turn _ _ _ _ _ c.dates_from-date-items.ensures c.into_iter-date-iterator.ensures.into_iter_gives c.loop-date.yielded _ c.loop-date.yielded_by _ _ _ c.in-Some.is
    c.next.ensures.steps in
    omega (arith, t.1, c.loop-date.invariant.3)

pub bounds-out-n : goal.bounds-out-n
bounds-out-n c =
    let t =
    turn _ _ _ _ _ c.dates_from-date-items.ensures c.into_iter-date-iterator.ensures.into_iter_gives c.loop-date.yielded _ c.loop-date.yielded_by _ _ _ c.in-Some.is
    c.next.ensures.steps in
    let i = c.loop-date.invariant in
    let d : c.in-Some.date.after ≡ length c.loop-date.yielded = omega (arith, t.1) in
    let e = ended c.args.wing c.args.span _ _ _ _ true (rw d at (told c.args.wing c.args.span _ _ _ t.2 c.rest_on-rests.ensures)) i.0 c.if-rests-run.true in
    let r = room c.args.wing c.args.span _ _ _ c.weekday_of-weekday.ensures (omega (arith, t.0)) i.1 e in
    omega (arith, r, c.loop-date.auto.out, c.requires)

pub bounds-out-n-then-rests-run : goal.bounds-out-n-then-rests-run
bounds-out-n-then-rests-run c =
    let t =
    turn _ _ _ _ _ c.dates_from-date-items.ensures c.into_iter-date-iterator.ensures.into_iter_gives c.loop-date.yielded _ c.loop-date.yielded_by _ _ _ c.in-Some.is
    c.next.ensures.steps in
    let i = c.loop-date.invariant in
    let d : c.in-Some.date.after ≡ length c.loop-date.yielded = omega (arith, t.1) in
    let e = ended c.args.wing c.args.span _ _ _ _ true (rw d at (told c.args.wing c.args.span _ _ _ t.2 c.rest_on-rests.ensures)) i.0 c.if-rests-run.true in
    let r = room c.args.wing c.args.span _ _ _ c.weekday_of-weekday.ensures (omega (arith, t.0)) i.1 e in
    simp length-set (omega (arith, r, c.loop-date.auto.out, c.requires))

pub overflow_add-run : goal.overflow_add-run
overflow_add-run c =
    let t =
    turn _ _ _ _ _ c.dates_from-date-items.ensures c.into_iter-date-iterator.ensures.into_iter_gives c.loop-date.yielded _ c.loop-date.yielded_by _ _ _ c.in-Some.is
    c.next.ensures.steps in
    let s = walked_small c.args.span.length c.in-Some.date t.2 c.args.span.is_span.measured (omega (arith, t.0, t.1)) in
    let r : c.loop-date.run ≤ 400 = omega (arith, c.loop-date.invariant.3, t.1, s.0) in search rules

pub loop-date-preserved : goal.loop-date-preserved
loop-date-preserved c =
    let t =
    turn _ _ _ _ _ c.dates_from-date-items.ensures c.into_iter-date-iterator.ensures.into_iter_gives c.loop-date.yielded _ c.loop-date.yielded_by _ _ _ c.in-Some.is
    c.next.ensures.steps in
    let wing = c.args.wing in
    let span = c.args.span in
    let i = c.loop-date.invariant in
    let rest = resting wing span c.weekday_of-weekday.result in
    let k = length c.loop-date.yielded in
    let d : c.in-Some.date.after ≡ k = omega (arith, t.1) in
    let u = rw d at (told wing span c.weekday_of-weekday.result _ _ t.2 c.rest_on-rests.ensures) in
    let run : c.pick-run.result ≡ run_before rest (k + 1) = rw (run_more rest k, u, ← i.0) c.pick-run.ensures.0 in
    let few = run_few rest (k + 1) in
    rw (length-append c.loop-date.yielded (c.in-Some.date ∷ []))
    (elim c.if-rests-run.branch [
      | then-rests-run v ↦
          let e = ended wing span _ _ _ _ true u i.0 v.if-rests-run.true in
          let y = rows_yes rest span.new_year k e in
          let h = room wing span _ _ _ c.weekday_of-weekday.ensures (omega (arith, t.0)) i.1 e in (
            run,
            simp (y, length-append) (omega (arith, v.n-is, i.1)),
            simp (v.out-is, y, d, i.2, i.0) (over_two _ (rows_at rest span.new_year k) _ _ c.loop-date.n (sym i.1) (omega (arith, h, c.requires))),
            omega (arith, run, few),
            omega (arith, v.n-is, h),
          )
      | else-rests-run v ↦
          let y = rows_no rest span.new_year k (ended wing span _ _ _ _ false u i.0 v.if-rests-run.false) in
          (run, simp y (omega (arith, v.n-is, i.1)), simp (v.out-is, y) i.2, omega (arith, run, few), omega (arith, v.n-is, i.4))
    ])

pub returns : goal.returns
returns c =
    let e = c.args.span.is_span in
    let i = c.loop-date.invariant in
    let q =
    walk_ended _ _ _ _ _ c.dates_from-date-items.ensures c.into_iter-date-iterator.ensures.into_iter_gives c.loop-date.yielded _ c.loop-date.yielded_by _ _
    c.in-None.is c.next.ensures.steps in
    let same =
    rw (← e.days, ← e.begins, ← c.weekday_of-weekday.ensures) at
    (stretches_same
    (record {
      table = table_of (number_of c.args.wing);
      year = c.args.span.year;
      ok = tables_pass (number_of c.args.wing);
      low = e.first;
      high = e.last;
    })) in
    let z : length c.loop-date.yielded ≡ c.args.span.length = omega (arith, q) in
    rw same (rw z at i.1, (i.4, rw z at i.2))
