-- What `notice_on_lines` and `shown_date` promise, and that their contracts leave one answer.
use mathlib.Core.Path.{◌≡◌, refl, ap}
use mathlib.Core.Bool.{false, false≢true}
use mathlib.Core.List.{List, [], ◌∷◌}
use mathlib.Core.Logic.{by_cases}
use Prim.Native.Nat.{ℕ}
use native.Mathlib.Decide.{dec_le, ℕ_discrete}
use native.Mathlib.Omega.{arith}
use borrow.Author.Tests.{eq-eqb, ne_eqb}
use lib.Signed.{le_z_yes}
use Rattle.laws.specs.Promise.{◌else◌, Promised, Smallest}
use Rattle.laws.proofs.One.{one_result}
use Rattle.laws.proofs.Promises.{Catches, ranged, either, asks, answered, restated, smallest}
use Rattle.line.specs.Line.{first_line, after_line, IsNumber, decimal}
use Rattle.line.proofs.Answers.{number_caught}
use Rattle.days.specs.Range.{InRange}
use Rattle.civil.specs.Signed.{GregorianLeapYear}
use Rattle.civil.specs.Calendar.{gregorian, gregorian_leap, month_days, days_before, years_days, days_to, day_of}
use Rattle.civil.specs.Answers.{no_date}
use Rattle.civil.specs.Promises.{IsDateOf}
use Rattle.civil.specs.declared.CivilDate.{CivilDate}
use Rattle.civil.proofs.Answers.{day_to_gregorian_promised}
use Rattle.molad.specs.Years.{leap, last_year, InYears}
use Rattle.molad.specs.Molad.{IsMonth}
use Rattle.molad.proofs.Answers.{months_caught}
use Rattle.notice.specs.Answers.{no_notice, notice_answer}
use Rattle.notice.specs.declared.NoticeAnswer.{NoticeAnswer}
use Rattle.notice.proofs.Answers.{notice_promised}
use Rattle.notice.proofs.Theorems.{only_below}
use Rattle.notice.proofs.Fixed.{words_fixed}
use Rattle.wording.specs.Answers.{notice_on, notice_on_lines, first_shown, first_shown_date, shown_date}
use Rattle.wording.specs.Promises.{MayBeShown, PromisedShownDate}

-- Answered exactly if the first line holds a year and the second a month of it: then with that month's notice.
pub notice_on_lines_promised :
    (input : List ℕ) → let year = first_line input in let month = first_line (after_line input) in
    Promised (λ (r : NoticeAnswer). r.refusal)
    ((IsNumber year × InYears (decimal year)) else 1
    ∷ (IsNumber month × IsMonth (leap (decimal year)) (decimal month)) else 2
    ∷ [])
    (λ r. r ≡ notice_answer (decimal year) (decimal month))
    (λ n r. (r.day ≡ 0) × ((r.weekday ≡ 0) × ((r.hour ≡ 0) × ((r.minute ≡ 0) × (r.part ≡ 0)))))
    (notice_on_lines input)
unfolding notice_on_lines notice_on
notice_on_lines_promised input =
    let first = first_line input in
    let second = first_line (after_line input) in
    let year = either (number_caught first) (ranged 1 last_year (decimal first)) in
    let month = either (number_caught second) (months_caught (leap (decimal first)) (decimal second)) in
    asks (no_notice 1) year (omega arith) refl (refl, (refl, (refl, (refl, refl)))) (λ y.
    asks (no_notice 2) month (omega arith) refl (refl, (refl, (refl, (refl, refl)))) (λ m.
    answered ((notice_promised (decimal first) (decimal second)).done.1 (y.1, (m.1, tt))) refl))

pub notice_on_lines_smallest : (input : List ℕ) → Smallest (notice_on_lines_promised input)
notice_on_lines_smallest input = smallest (notice_on_lines_promised input) (omega arith, (omega arith, tt))

pub notice_on_lines_one : (input : List ℕ) (r s : NoticeAnswer) → r ≡ notice_on_lines input → s ≡ notice_on_lines input → r ≡ s
notice_on_lines_one input = one_result (notice_on_lines input)

-- 6 September −3760 is a date, and its day is counted as the one before the first.
first_date : IsDateOf gregorian GregorianLeapYear first_shown first_shown_date
unfolding day_of days_to years_days days_before month_days gregorian_leap
first_date = (refl, ((le_z_yes tt, le_z_yes tt), (omega arith, (omega arith, (λ _. omega arith, λ _. omega arith)))))

first_promised : PromisedShownDate first_shown first_shown_date
first_promised =
    let met : Catches false (MayBeShown first_shown) = record { passes = λ _. omega arith; catches = λ e. absurd (false≢true e) } in
    asks no_date met (omega arith) refl (refl, (refl, refl)) (λ _. answered refl first_date)

pub shown_date_promised : (j : ℕ) → PromisedShownDate j (shown_date j)
unfolding shown_date
shown_date_promised j =
    by_cases (ℕ_discrete j first_shown)
    (λ e. rw (eq-eqb j first_shown e) (rw e first_promised))
    (λ e.
    let range : MayBeShown j → InRange j = λ s. (omega arith, s.1) in
    rw (ne_eqb j first_shown e) (restated (λ i. (omega arith, i.1), range) (λ _ p. p) (day_to_gregorian_promised j)))

pub shown_date_one : (j : ℕ) (r s : CivilDate) → r ≡ shown_date j → s ≡ shown_date j → r ≡ s
shown_date_one j = one_result (shown_date j)

-- So each notice that is answered has a day with a date.
pub every_notice_dated : (h code : ℕ) (r : NoticeAnswer) → r ≡ notice_answer h code → r.refusal ≡ 0 → (shown_date r.day).refusal ≡ 0
every_notice_dated h code r e z =
    let b = only_below h code r e z in
    let p = shown_date_promised r.day in
    by_cases (dec_le first_shown r.day)
    (λ l. p.done.1 ((l, b.0), tt))
    (λ l.
    let first = b.1 (omega arith) in
    absurd (omega (arith, ap (λ (x : NoticeAnswer). x.day) (rw (first.0, first.1, words_fixed.first) at e))))
