-- What `notice` promises, and that its contract leaves one answer.
use mathlib.Core.Path.{◌≡◌, refl}
use mathlib.Core.List.{[], ◌∷◌}
use mathlib.Core.Logic.{by_cases}
use Prim.Native.Nat.{ℕ, ◌+◌, ◌*◌, ◌/◌, ◌%◌, ◌≤◌}
use native.Mathlib.Omega.{arith}
use native.Mathlib.Decide.{dec_le}
use borrow.Author.Tests.{le-leb, lt-leb}
use Rattle.laws.specs.Promise.{◌else◌, Promised, Smallest}
use Rattle.laws.proofs.One.{one_result}
use Rattle.laws.proofs.Promises.{ranged, asks, answered, smallest}
use Rattle.molad.specs.Units.{time}
use Rattle.molad.specs.Years.{leap, last_year, InYears}
use Rattle.molad.specs.Molad.{IsMonth, molad_parts, molad_day, molad_time}
use Rattle.molad.proofs.Answers.{months_caught}
use Rattle.notice.specs.Answers.{no_notice, notice_at, notice_answer}
use Rattle.notice.specs.Promises.{parts_from_midnight, Shows}
use Rattle.notice.specs.declared.NoticeAnswer.{NoticeAnswer}
use Rattle.notice.proofs.Days.{from_first_day}

-- On any day but 0, at any time: what the clock shows, and that its parts are six hours fewer than the molad's.
module _ (j hour part : ℕ) (later : 1 ≤ j) (h : hour ≤ 23) (p : part ≤ 1079) where
  shows : Shows j hour part (notice_at j hour part)
  shows =
      by_cases (dec_le hour 5)
      (λ e. rw (le-leb hour 5 e) ((λ _. omega arith, λ l. absurd (omega arith)), (refl, ((refl, refl), omega arith))))
      (λ e. rw (lt-leb hour 5 (omega arith)) ((λ l. absurd (omega arith), λ _. omega arith), (refl, ((refl, refl), omega arith))))

  instant : parts_from_midnight (notice_at j hour part) + time 6 0 ≡ time (24 * j + hour) part
  instant = by_cases (dec_le hour 5) (λ e. rw (le-leb hour 5 e) (omega arith)) (λ e. rw (lt-leb hour 5 (omega arith)) (omega arith))

-- The moment shown is the molad's: the same parts, counted from six hours later.
pub notice_promised :
    (h code : ℕ) →
    Promised (λ (r : NoticeAnswer). r.refusal) (InYears h else 1 ∷ IsMonth (leap h) code else 2 ∷ [])
    (λ r.
    Shows (molad_day h code) (molad_time h code / 1080) (molad_time h code % 1080) r
    × (parts_from_midnight r + time 6 0 ≡ molad_parts h code))
    (λ n r. (r.day ≡ 0) × ((r.weekday ≡ 0) × ((r.hour ≡ 0) × ((r.minute ≡ 0) × (r.part ≡ 0)))))
    (notice_answer h code)
unfolding notice_answer molad_day molad_time
notice_promised h code =
    let t = molad_time h code in
    let s = shows (molad_day h code) (t / 1080) (t % 1080) (omega (arith, from_first_day h code)) (omega arith) (omega arith) in
    let i = instant (molad_day h code) (t / 1080) (t % 1080) (omega (arith, from_first_day h code)) (omega arith) (omega arith) in
    asks (no_notice 1) (ranged 1 last_year h) (omega arith) refl (refl, (refl, (refl, (refl, refl)))) (λ _.
    asks (no_notice 2) (months_caught (leap h) code) (omega arith) refl (refl, (refl, (refl, (refl, refl)))) (λ _.
    answered refl (s, omega (arith, i))))

pub notice_smallest : (h code : ℕ) → Smallest (notice_promised h code)
notice_smallest h code = smallest (notice_promised h code) (omega arith, (omega arith, tt))

pub notice_one : (h code : ℕ) (r s : NoticeAnswer) → r ≡ notice_answer h code → s ≡ notice_answer h code → r ≡ s
notice_one h code = one_result (notice_answer h code)
