-- What a record worked out afresh tells of its day.
use mathlib.Core.Path.{◌≡◌, refl}
use mathlib.Core.List.{◌∷◌}
use mathlib.Core.Logic.{inl, inr, ⊎_elim}
use Prim.Native.Nat.{ℕ, ◌-◌, ◌<◌}
use native.Mathlib.Omega.{arith}
use Rattle.laws.specs.Promise.{◌else◌, AllMet, FirstUnmet}
use Rattle.days.specs.Range.{last_day, InRange}
use Rattle.newyear.specs.NewYear.{InYear}
use Rattle.hebrew.specs.Dates.{date_of}
use Rattle.hebrew.proofs.Dates.{date_good, date_day, in_its_year}
use Rattle.fasts.proofs.Found.{told}
use Rattle.rest.specs.Wings.{IsWing, table_of}
use Rattle.stretch.specs.Answers.{wing_stretch}
use Rattle.stretch.specs.Promises.{StretchAhead, asked_of_day}
use Rattle.stretch.proofs.Answers.{either_wing, stretch_promised}
use Rattle.stretch.proofs.Fixed.{words_fixed}
use Rattle.record.specs.Record.{dated_of, afresh}
use Rattle.record.specs.Promises.{RecordOf}

-- No stretch ends on the last four days: none does on or after the first of them.
first_of_four : (wing : ℕ) → IsWing wing → (wing_stretch wing (last_day - 3)).refusal ≡ 9
first_of_four wing =
    ⊎_elim (λ e. rw (e, words_fixed.last_day_lem.2)) (λ e. rw (e, words_fixed.last_day_lem.3))

none_left : (wing j : ℕ) → IsWing wing → last_day - 4 < j → StretchAhead (table_of wing) j → ⊥
none_left wing j w l a =
    let earlier : StretchAhead (table_of wing) (last_day - 3) =
    record { first = a.first; days = a.days; a_stretch = a.a_stretch; not_over = omega (arith, a.not_over) } in
    let z = (stretch_promised wing (last_day - 3)).done.1 (w, (omega arith, (earlier, tt))) in
    omega (arith, first_of_four wing w)

module _ (wing j : ℕ) (w : IsWing wing) (i : InRange j) where
  in_year : InYear j (date_of j).year
  in_year = rw (date_day j i.0 i.1) at (in_its_year (date_of j) (date_good j i.0 i.1))

  pub afresh_told : RecordOf wing j (afresh wing j)
  unfolding afresh dated_of
  afresh_told =
      let p = stretch_promised wing j in
      record {
        of_day = refl;
        of_wing_is = refl;
        good_date = date_good j i.0 i.1;
        its_date = date_day j i.0 i.1;
        remains = omega (arith, in_year.before);
        stretch = λ l.
            let m : AllMet (IsWing wing else 15 ∷ asked_of_day (table_of wing) j) = (w, (i, ((either_wing wing).ahead j i l, tt))) in
            let v = p.values m in (rw (p.done.1 m), v);
        last_four = λ l.
            let u : FirstUnmet (IsWing wing else 15 ∷ asked_of_day (table_of wing) j) 9 = inr (w, inr (i, inl (none_left wing j w l, refl))) in
            (rw ((p.refused 9 (omega arith)).1 u), p.besides 9 u);
        fast = told j i;
      }
