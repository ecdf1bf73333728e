-- What the three calls promise; that a record stays new or as worked out afresh; and that each contract leaves one answer and
-- one record.
use mathlib.Core.Path.{◌≡◌, refl, sym, ap, subst, ◌∙◌}
use mathlib.Core.Bool.{Bool, true, false, ◌||◌, cond}
use mathlib.Core.List.{List, [], ◌∷◌}
use mathlib.Core.Logic.{inl, inr, ⊎_elim}
use Prim.Native.Nat.{ℕ, ◌+◌, ◌-◌}
use native.Mathlib.Omega.{arith}
use Rattle.laws.proofs.One.{one_result}
use Rattle.laws.proofs.Tests.{within}
use Rattle.laws.proofs.Promises.{Catches, ranged, either, let_pass, asks, answered}
use Rattle.days.specs.Range.{first_day, last_day, InRange, out_of_range}
use Rattle.rest.specs.Wings.{IsWing, out_of_wings}
use Rattle.rest.proofs.Wings.{wings}
use Rattle.record.specs.Record.{new_record, afresh}
use Rattle.record.specs.Steps.{record_on, record_back}
use Rattle.record.specs.Answers.{leaves, set_to, moved_to, next_of, back_of}
use Rattle.record.specs.Promises.{Afresh, PromisedSet, PromisedMove, PromisedNext, PromisedBack, PromisedOfAny, PromisedNextOfAny, PromisedBackOfAny, Call, set, next, back, called, after_all, NewOrAfresh, AfterAnyCalls}
use Rattle.record.specs.declared.DayRecord.{DayRecord}
use Rattle.record.specs.declared.Moved.{Moved}
use Rattle.record.proofs.Told.{afresh_told}
use Rattle.record.proofs.Moves.{moves_on, moves_back}

pub set_promised : (r : DayRecord) (wing j : ℕ) → PromisedSet r wing j (set_to r wing j)
unfolding set_to
set_promised r wing j =
    asks (leaves 15 r) (wings wing) (omega arith) refl refl (λ w.
    asks (leaves 4 r) (ranged first_day last_day j) (omega arith) refl refl (λ i. answered refl (refl, afresh_told wing j w i)))

-- A record worked out afresh is of a day in range and of a wing.
afresh_is : (wing j : ℕ) → IsWing wing → InRange j → Afresh (afresh wing j)
unfolding afresh
afresh_is wing j w i = record { in_range = i; a_wing = w; as_afresh = refl }

set_keeps : (r : DayRecord) (wing j : ℕ) → NewOrAfresh r → NewOrAfresh (set_to r wing j).after
unfolding set_to
set_keeps r wing j k = go (out_of_wings wing) refl (out_of_range j) refl
  where
    go :
        (b : Bool) → out_of_wings wing ≡ b → (c : Bool) → out_of_range j ≡ c →
        NewOrAfresh (cond b (leaves 15 r) (cond c (leaves 4 r) (leaves 0 (afresh wing j)))).after
    go true e c f = k
    go false e true f = k
    go false e false f = inr (afresh_is wing j ((wings wing).passes e) (within first_day last_day j f))

-- A move to day j of the record.
module _ (r : DayRecord) (j : ℕ) (moved : DayRecord) where
  both : Catches (out_of_range r.day || out_of_range j) (InRange r.day × InRange j)
  both = either (ranged first_day last_day r.day) (ranged first_day last_day j)

  any_promised : moved.day ≡ j → moved.wing ≡ r.wing → PromisedOfAny r j (moved_to r j moved)
  any_promised d w =
      asks (leaves 4 r) both (omega arith) refl refl (λ _.
      asks (leaves 15 r) (wings r.wing) (omega arith) refl refl (λ _. answered refl (d, w)))

  module _ (k : NewOrAfresh r) (right : Afresh r → InRange j → moved ≡ afresh r.wing j) where
    -- A new record's day is outside the range.
    not_new : InRange r.day → Afresh r
    not_new i = ⊎_elim (λ e. absurd (let z = ap (λ (s : DayRecord). s.day) e in omega arith)) (λ a. a) k

    move_promised : PromisedMove r j (moved_to r j moved)
    move_promised =
        asks (leaves 4 r) both (omega arith) refl refl (λ m.
        let a = not_new m.0 in
        let e = right a m.1 in
        rw (let_pass (wings r.wing) a.a_wing) (answered refl (e, rw e (afresh_told r.wing j a.a_wing m.1))))

    move_keeps : NewOrAfresh (moved_to r j moved).after
    move_keeps = go (out_of_range r.day || out_of_range j) refl (out_of_wings r.wing)
      where
        go :
            (b : Bool) → out_of_range r.day || out_of_range j ≡ b → (c : Bool) →
            NewOrAfresh (cond b (leaves 4 r) (cond c (leaves 15 r) (leaves 0 moved))).after
        go true e c = k
        go false e true = k
        go false e false =
            let m = both.passes e in
            let a = not_new m.0 in
            inr (subst Afresh (sym (right a m.1)) (afresh_is r.wing j a.a_wing m.1))

module _ (r : DayRecord) where
  goes_on : Afresh r → InRange (r.day + 1) → record_on r ≡ afresh r.wing (r.day + 1)
  goes_on a i = ap record_on a.as_afresh ∙ moves_on r.wing r.day a.a_wing a.in_range i

  goes_back : Afresh r → InRange (r.day - 1) → record_back r ≡ afresh r.wing (r.day - 1)
  goes_back a i = ap record_back a.as_afresh ∙ moves_back r.wing r.day a.a_wing a.in_range i

  pub next_promised : NewOrAfresh r → PromisedNext r
  unfolding next_of
  next_promised k = move_promised r (r.day + 1) (record_on r) k goes_on

  pub back_promised : NewOrAfresh r → PromisedBack r
  unfolding back_of
  back_promised k = move_promised r (r.day - 1) (record_back r) k goes_back

  -- Whatever the record is.
  pub next_of_any : PromisedNextOfAny r
  unfolding next_of record_on
  next_of_any = any_promised r (r.day + 1) (record_on r) refl refl

  pub back_of_any : PromisedBackOfAny r
  unfolding back_of record_back
  back_of_any = any_promised r (r.day - 1) (record_back r) refl refl

  -- One call keeps the record new or as worked out afresh.
  call_keeps : NewOrAfresh r → (c : Call) → NewOrAfresh (called r c).after
  unfolding next_of back_of
  call_keeps k (set wing j) = set_keeps r wing j k
  call_keeps k next = move_keeps r (r.day + 1) (record_on r) k goes_on
  call_keeps k back = move_keeps r (r.day - 1) (record_back r) k goes_back

-- So does any list of calls.
calls_keep : (r : DayRecord) → NewOrAfresh r → (calls : List Call) → NewOrAfresh (after_all r calls)
calls_keep r k [] = k
calls_keep r k (c ∷ calls) = calls_keep (called r c).after (call_keeps r k c) calls

pub after_any_calls : (calls : List Call) → AfterAnyCalls calls
after_any_calls calls =
    let r = after_all new_record calls in
    let k = calls_keep new_record (inl refl) calls in
    record { new_or_afresh = k; then_next = next_promised r k; then_back = back_promised r k }

pub set_one : (r : DayRecord) (wing j : ℕ) (m n : Moved) → m ≡ set_to r wing j → n ≡ set_to r wing j → m ≡ n
set_one r wing j = one_result (set_to r wing j)

pub next_one : (r : DayRecord) (m n : Moved) → m ≡ next_of r → n ≡ next_of r → m ≡ n
next_one r = one_result (next_of r)

pub back_one : (r : DayRecord) (m n : Moved) → m ≡ back_of r → n ≡ back_of r → m ≡ n
back_one r = one_result (back_of r)
