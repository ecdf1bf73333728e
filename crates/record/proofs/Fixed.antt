-- The words of this crate are these numbers, worked out from the closed month count.
use mathlib.Core.Path.{◌≡◌, refl, sym, ap, subst, ◌∙◌}
use mathlib.Core.Bool.{true, false, ◌||◌}
use mathlib.Core.List.{[], ◌∷◌}
use mathlib.Core.Logic.{inl, inr}
use Prim.Native.Nat.{ℕ, ◌+◌, ◌-◌}
use native.Mathlib.Omega.{arith}
use lib.IntN.{pos, negsuc}
use Rattle.laws.specs.Promise.{◌else◌, AllMet}
use Rattle.laws.specs.Begun.{begun}
use Rattle.laws.specs.Search.{seek, seek_not, run_start}
use Rattle.days.specs.Range.{InRange, out_of_range}
use Rattle.molad.specs.Years.{leap}
use Rattle.molad.specs.Molad.{no_month}
use Rattle.newyear.specs.NewYear.{new_year, year_length}
use Rattle.newyear.proofs.Quick.{quick, new_year_quick}
use Rattle.hebrew.specs.Months.{month_length, days_before}
use Rattle.hebrew.specs.Dates.{day_number, month_of}
use Rattle.hebrew.specs.Steps.{year_date}
use Rattle.hebrew.specs.Answers.{hebrew_day}
use Rattle.fasts.specs.Fasts.{kept_on}
use Rattle.fasts.specs.Ahead.{ahead_in}
use Rattle.fasts.proofs.Fixed.{day_by, ahead_by}
use Rattle.rest.specs.Wings.{IsWing, out_of_wings, table_of}
use Rattle.rest.specs.Steps.{rest_at}
use Rattle.stretch.specs.Steps.{next_at, first_for, past_for}
use Rattle.record.specs.Record.{afresh}
use Rattle.record.specs.Steps.{record_on, record_back}
use Rattle.record.specs.Answers.{leaves, set_to, moved_to, next_of, back_of}
use Rattle.record.specs.Promises.{Afresh, PromisedMove}
use Rattle.record.specs.Fixed.{on, on_last, zeros, of_no_wing, eve, new_year5775, saturday, sunday, monday, first_of_all, last_fast, after_fasts, last_saturday, last_of_all, WordsFixed}
use Rattle.record.specs.declared.DayRecord.{DayRecord}
use Rattle.record.specs.declared.Moved.{Moved}
use Rattle.record.proofs.Worked.{long, of_year}
use Rattle.record.proofs.Answers.{set_promised, next_promised, back_promised}

-- Set to a day whose record is this.
set_to_lem : (r s : DayRecord) → Afresh s → set_to r s.wing s.day ≡ leaves 0 s
set_to_lem r s a =
    let p = set_promised r s.wing s.day in
    let m : AllMet (IsWing s.wing else 15 ∷ InRange s.day else 4 ∷ []) = (a.a_wing, (a.in_range, tt)) in
    λ i. record { refusal = p.done.1 m i; after = ((p.values m).0 ∙ sym a.as_afresh) i }

-- Moved to the neighbouring day, whose record is this.
moved_to_lem : (r s : DayRecord) (m : Moved) → PromisedMove r s.day m → Afresh r → Afresh s → s.wing ≡ r.wing → m ≡ leaves 0 s
moved_to_lem r s m p a b e =
    let k : AllMet ((InRange r.day × InRange s.day) else 4 ∷ []) = ((a.in_range, b.in_range), tt) in
    λ i. record { refusal = p.done.1 k i; after = ((p.values k).0 ∙ sym (b.as_afresh ∙ ap (λ (w : ℕ). afresh w s.day) e)) i }

on_to : (r s : DayRecord) → Afresh r → Afresh s → s.wing ≡ r.wing → r.day + 1 ≡ s.day → next_of r ≡ leaves 0 s
on_to r s a b e f = moved_to_lem r s (next_of r) (subst (λ (j : ℕ). PromisedMove r j (next_of r)) f (next_promised r (inr a))) a b e

back_to : (r s : DayRecord) → Afresh r → Afresh s → s.wing ≡ r.wing → r.day - 1 ≡ s.day → back_of r ≡ leaves 0 s
back_to r s a b e f = moved_to_lem r s (back_of r) (subst (λ (j : ℕ). PromisedMove r j (back_of r)) f (back_promised r (inr a))) a b e

-- Refused.
wing_refused : (r : DayRecord) (wing j : ℕ) → out_of_wings wing ≡ true → set_to r wing j ≡ leaves 15 r
unfolding set_to
wing_refused r wing j e = rw e

day_refused : (r : DayRecord) (wing j : ℕ) → out_of_wings wing ≡ false → out_of_range j ≡ true → set_to r wing j ≡ leaves 4 r
unfolding set_to
day_refused r wing j w e = rw (w, e)

next_refused : (r : DayRecord) → out_of_range r.day || out_of_range (r.day + 1) ≡ true → next_of r ≡ leaves 4 r
unfolding next_of
next_refused r e = rw e

move_refused : (r : DayRecord) (j : ℕ) (moved : DayRecord) → out_of_range r.day || out_of_range j ≡ false → out_of_wings r.wing ≡ true → moved_to r j moved ≡ leaves 15 r
move_refused r j moved e w = rw (e, w)

back_refused : (r : DayRecord) → out_of_range r.day || out_of_range (r.day - 1) ≡ true → back_of r ≡ leaves 4 r
unfolding back_of
back_refused r e = rw e

spoilt_on : next_of of_no_wing ≡ leaves 15 of_no_wing
unfolding next_of
spoilt_on = move_refused of_no_wing 2456926 (record_on of_no_wing) refl refl

spoilt_back : back_of of_no_wing ≡ leaves 15 of_no_wing
unfolding back_of
spoilt_back = move_refused of_no_wing 2456924 (record_back of_no_wing) refl refl

-- The day between New Year 5775 and its Saturday.
abbrev tishri2 : DayRecord
tishri2 = on 2456927 1 5775 1 2 2456926 3 (negsuc 0) 352 1 2

pub words_fixed : WordsFixed
unfolding quick hebrew_day day_number leap no_month table_of rest_at year_date month_of begun days_before month_length next_at first_for past_for seek seek_not run_start ahead_by day_by ahead_in kept_on
words_fixed =
    let n1 : new_year 1 ≡ 347998 = new_year_quick 1 (omega arith) in
    let n2 : new_year (1 + 1) ≡ 348353 = new_year_quick 2 (omega arith) in
    let n5762 : new_year 5762 ≡ 2452171 = new_year_quick 5762 (omega arith) in
    let n5763 : new_year (5762 + 1) ≡ 2452525 = new_year_quick 5763 (omega arith) in
    let n5774 : new_year 5774 ≡ 2456541 = new_year_quick 5774 (omega arith) in
    let m5775 : new_year (5774 + 1) ≡ 2456926 = new_year_quick 5775 (omega arith) in
    let n5775 : new_year 5775 ≡ 2456926 = new_year_quick 5775 (omega arith) in
    let n5776 : new_year (5775 + 1) ≡ 2457280 = new_year_quick 5776 (omega arith) in
    let n9999 : new_year 9999 ≡ 3999723 = new_year_quick 9999 (omega arith) in
    let n10000 : new_year (9999 + 1) ≡ 4000076 = new_year_quick 10000 (omega arith) in
    let l5774 : year_length 5774 ≡ 385 = long 5774 n5774 m5775 in
    let l9999 : year_length 9999 ≡ 353 = long 9999 n9999 n10000 in
    let of-1 = of_year 1 347998 348353 (omega arith, omega arith) n1 n2 in
    let of-5762 = of_year 5762 2452171 2452525 (omega arith, omega arith) n5762 n5763 in
    let of-5774 = of_year 5774 2456541 2456926 (omega arith, omega arith) n5774 m5775 in
    let of-5775 = of_year 5775 2456926 2457280 (omega arith, omega arith) n5775 n5776 in
    let of-9999 = of_year 9999 3999723 4000076 (omega arith, omega arith) n9999 n10000 in
    let eve' = of-5774 eve refl (inl refl) (omega arith) (omega arith) (rw (n5774, l5774)) refl in
    let first = of-5775 new_year5775 refl (inl refl) (omega arith) (omega arith) (rw n5775) refl in
    let second = of-5775 tishri2 refl (inl refl) (omega arith) (omega arith) (rw n5775) refl in
    let third = of-5775 saturday refl (inl refl) (omega arith) (omega arith) (rw n5775) refl in
    let fourth = of-5775 sunday refl (inl refl) (omega arith) (omega arith) (rw n5775) refl in
    let fifth = of-5775 monday refl (inl refl) (omega arith) (omega arith) (rw n5775) refl in
    let one = of-5762 (on 2452186 1 5762 1 16 2452189 1 (pos 3) 338 4 83) refl (inl refl) (omega arith) (omega arith) (rw n5762) refl in
    let guest = of-5762 (on 2452186 2 5762 1 16 2452185 2 (negsuc 0) 338 4 83) refl (inr refl) (omega arith) (omega arith) (rw n5762) refl in
    let begin = of-1 first_of_all refl (inl refl) (omega arith) (omega arith) (rw n1) refl in
    let fast = of-9999 last_fast refl (inl refl) (omega arith) (omega arith) (rw (n9999, l9999)) refl in
    let after = of-9999 after_fasts refl (inl refl) (omega arith) (omega arith) (rw (n9999, l9999)) refl in
    let sabbath = of-9999 last_saturday refl (inr refl) (omega arith) (omega arith) (rw (n9999, l9999)) refl in
    let l1-1 = of-9999 (on_last 4000072 1 9999 13 26 3) refl (inl refl) (omega arith) (omega arith) (rw (n9999, l9999)) refl in
    let l1-2 = of-9999 (on_last 4000072 2 9999 13 26 3) refl (inr refl) (omega arith) (omega arith) (rw (n9999, l9999)) refl in
    let l2-1 = of-9999 (on_last 4000073 1 9999 13 27 2) refl (inl refl) (omega arith) (omega arith) (rw (n9999, l9999)) refl in
    let l2-2 = of-9999 (on_last 4000073 2 9999 13 27 2) refl (inr refl) (omega arith) (omega arith) (rw (n9999, l9999)) refl in
    let l3-1 = of-9999 (on_last 4000074 1 9999 13 28 1) refl (inl refl) (omega arith) (omega arith) (rw (n9999, l9999)) refl in
    let l3-2 = of-9999 (on_last 4000074 2 9999 13 28 1) refl (inr refl) (omega arith) (omega arith) (rw (n9999, l9999)) refl in
    let l4-1 = of-9999 last_of_all refl (inl refl) (omega arith) (omega arith) (rw (n9999, l9999)) refl in
    let l4-2 = of-9999 (on_last 4000075 2 9999 13 29 0) refl (inr refl) (omega arith) (omega arith) (rw (n9999, l9999)) refl in
    let last_on = on_to last_saturday (on_last 4000072 2 9999 13 26 3) sabbath l1-2 refl refl in
    let over = on_to eve new_year5775 eve' first refl refl in
    let past = on_to saturday sunday third fourth refl refl in
    let back-again = back_to sunday saturday fourth third refl refl in
    let on-1 = on_to new_year5775 tishri2 first second refl refl in
    let on-2 = on_to tishri2 saturday second third refl refl in
    let calls : (back_of (next_of (next_of (set_to (next_of (next_of (set_to (next_of zeros).after 1 2456925).after).after).after 3 2456925).after).after).after).after ≡ saturday =
    rw (next_refused zeros refl, set_to_lem zeros eve eve', over, on-1, wing_refused tishri2 3 2456925 refl, on-2, past, back-again) in
    record {
      new = refl;
      a_set = (set_to_lem zeros eve eve', set_to_lem zeros new_year5775 first, set_to_lem eve saturday third, set_to_lem zeros sunday fourth, set_to_lem zeros monday fifth);
      both_wings = (set_to_lem zeros _ one, set_to_lem zeros _ guest);
      ends = (set_to_lem zeros first_of_all begin, set_to_lem zeros last_saturday sabbath);
      last_fasts = (set_to_lem zeros last_fast fast, set_to_lem zeros after_fasts after);
      last_four = (
        set_to_lem zeros _ l1-1,
        set_to_lem zeros _ l1-2,
        set_to_lem zeros _ l2-1,
        set_to_lem zeros _ l2-2,
        set_to_lem zeros _ l3-1,
        set_to_lem zeros _ l3-2,
        set_to_lem zeros last_of_all l4-1,
        set_to_lem zeros _ l4-2,
      );
      moved = (over, past, on_to sunday monday fourth fifth refl refl, on_to last_fast after_fasts fast after refl refl, last_on);
      moved_back = (
        back_to new_year5775 eve first eve' refl refl,
        back-again,
        back_to monday sunday fifth fourth refl refl,
        back_to after_fasts last_fast after fast refl refl,
        back_to (on_last 4000072 2 9999 13 26 3) last_saturday l1-2 sabbath refl refl,
      );
      called = calls;
      no_wing = (wing_refused eve 0 2456925 refl, wing_refused eve 3 347997 refl, wing_refused zeros 0 0 refl);
      no_day_is = (
        day_refused eve 1 347997 refl refl,
        day_refused eve 2 347997 refl refl,
        day_refused eve 1 4000076 refl refl,
        day_refused eve 2 4000076 refl refl,
      );
      no_move = (next_refused last_of_all refl, back_refused first_of_all refl, next_refused zeros refl, back_refused zeros refl);
      spoilt = (spoilt_on, spoilt_back);
    }
