-- Of the answers: the notice and the molad are one instant; every day shown lies in the range but one.
use mathlib.Core.Path.{◌≡◌, refl}
use mathlib.Core.Bool.{Bool, false, not, ◌&&◌}
use mathlib.Core.Logic.{by_cases}
use Prim.Native.Nat.{ℕ, ◌+◌, ◌≤◌, ◌<◌}
use native.Mathlib.Decide.{dec_le}
use native.Mathlib.Omega.{arith}
use borrow.Author.Tests.{le-ltb, lt-ltb}
use lib.Dec.{ltb}
use Rattle.laws.proofs.Tests.{cond_le}
use Rattle.days.specs.Range.{first_day, last_day}
use Rattle.molad.specs.Units.{time}
use Rattle.molad.specs.Years.{InYears, leap, months_before}
use Rattle.molad.specs.Molad.{IsMonth, months_of_year_before, molad_after, molad_parts, molad_day, molad_time}
use Rattle.molad.specs.Answers.{molad_answer}
use Rattle.molad.specs.declared.MoladAnswer.{MoladAnswer}
use Rattle.molad.proofs.Answers.{molad_promised}
use Rattle.molad.proofs.Closed.{months_closed, months_of_year}
use Rattle.notice.specs.Answers.{notice_answer}
use Rattle.notice.specs.Promises.{parts_from_midnight, parts_from_evening, OnClock}
use Rattle.notice.specs.declared.NoticeAnswer.{NoticeAnswer}
use Rattle.notice.proofs.Answers.{notice_promised}

-- For one year and month: counted from midnight the notice has six hours less than the molad counted from the evening.
pub one_instant :
    (h code : ℕ) (r : NoticeAnswer) (m : MoladAnswer) → r ≡ notice_answer h code → m ≡ molad_answer h code → r.refusal ≡ 0 →
    parts_from_midnight r + time 6 0 ≡ parts_from_evening m
unfolding molad_day molad_time
one_instant h code r m e f z =
    let p = notice_promised h code in
    let met = p.done.0 (rw e at z) in
    let shown = (p.values met).1 in
    let told = ((molad_promised h code).values met).0 in
    rw (e, f) (omega (arith, shown, told))

-- Two readings of the clock at one instant are one.
pub one_reading :
    (r s : NoticeAnswer) → OnClock r → OnClock s → parts_from_midnight r ≡ parts_from_midnight s →
    (r.day ≡ s.day) × ((r.hour ≡ s.hour) × ((r.minute ≡ s.minute) × (r.part ≡ s.part)))
one_reading r s p q e = omega arith

-- Of a year's months only Tishri has none of the year before it.
first_code : (isLeap : Bool) (code : ℕ) → 1 ≤ code → code ≤ 13 → months_of_year_before isLeap code ≡ 0 → code ≡ 1
first_code isLeap code l u e =
    let n = months_of_year isLeap code l u in
    by_cases (dec_le code 6)
    (λ s. let t = rw (le-ltb 6 code s) at n in omega arith)
    (λ s. absurd (omega (arith, n, cond_le (ltb 6 code && not isLeap) 2 1 2 (omega arith) (omega arith))))

-- A month of a common year has at most eleven before it.
common_months : (code : ℕ) → 1 ≤ code → code ≤ 13 → months_of_year_before false code ≤ 11
common_months code l u =
    let n = months_of_year false code l u in
    by_cases (dec_le code 6)
    (λ s. omega (arith, n))
    (λ s. let t = rw (lt-ltb 6 code (omega arith)) at n in omega arith)

last_common : leap 9999 ≡ false
unfolding leap
last_common = refl

-- The months before a month, of all years, are at most those before the last of the year 9999, which is no leap year.
all_months : (h code : ℕ) → InYears h → IsMonth (leap h) code → months_before h + months_of_year_before (leap h) code ≤ 123670
all_months h code y m =
    let c = months_closed h y.0 in
    by_cases (dec_le h 9998)
    (λ s. omega (arith, c, months_of_year (leap h) code m.0.0 m.0.1))
    (λ s. let e : h ≡ 9999 = omega arith in rw (e, last_common) (omega (arith, rw e at c, common_months code m.0.0 m.0.1)))

-- A day shown lies in the range, or before its first day, and then the notice is that of Tishri of year 1.
pub only_below :
    (h code : ℕ) (r : NoticeAnswer) → r ≡ notice_answer h code → r.refusal ≡ 0 →
    (r.day ≤ last_day) × (r.day < first_day → (h ≡ 1) × (code ≡ 1))
unfolding molad_parts molad_after
only_below h code r e z =
    let p = notice_promised h code in
    let met = p.done.0 (rw e at z) in
    let v = p.values met in
    let few = all_months h code met.0 met.1.0 in
    let c = months_closed h met.0.0 in
    rw e (
      omega (arith, v.1, v.0.1.1.1, few),
      λ below.
          let none : months_before h + months_of_year_before (leap h) code ≡ 0 = omega (arith, v.1, v.0.1.1.1) in
          (omega (arith, c), first_code (leap h) code met.1.0.0.0 met.1.0.0.1 (omega arith)),
    )
