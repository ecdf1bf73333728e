-- The stretch of a record that is moved: kept, or that for the day it comes to.
use Rattle.std.proofs.Common.{◌≡◌, true, false, not, ◌||◌, ℕ, ◌+◌, ◌-◌}
use lib.Dec.{leb}
use Rattle.stretch.specs.Answers.{wing_stretch}
use Rattle.record.specs.Steps.{lasts, kept, rests, stretch_onward, stretch_backward}
use Rattle.record.specs.declared.DayRecord.{DayRecord}
use Rattle.record.specs.declared.Dated.{Dated}

module _ (r : DayRecord) (j : ℕ) (e : j ≡ r.day + 1) where
  pub on_kept : lasts r j ≡ true → stretch_onward r ≡ kept r j
  unfolding stretch_onward
  on_kept l = rw (← e, l)

  pub on_anew : lasts r j ≡ false → stretch_onward r ≡ wing_stretch r.wing j
  unfolding stretch_onward
  on_anew l = rw (← e, l)

module _ (r : DayRecord) (x : Dated) (j : ℕ) (e : j ≡ r.day - 1) where
  pub back_kept : lasts r j ≡ true → leb r.first j || not (rests r.wing j x) ≡ true → stretch_backward r x ≡ kept r j
  unfolding stretch_backward
  back_kept l s = rw (← e, l, s)

  pub back_other : lasts r j ≡ true → leb r.first j || not (rests r.wing j x) ≡ false → stretch_backward r x ≡ wing_stretch r.wing j
  unfolding stretch_backward
  back_other l s = rw (← e, l, s)

  pub back_anew : lasts r j ≡ false → stretch_backward r x ≡ wing_stretch r.wing j
  unfolding stretch_backward
  back_anew l = rw (← e, l)
