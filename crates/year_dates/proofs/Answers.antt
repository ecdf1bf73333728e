-- The contract of `dates_from` leaves one walk.
use mathlib.Core.Path.{◌≡◌, sym, ◌∙◌, ap}
use mathlib.Core.HLevel.{is_prop→PathP}
use Prim.Native.Nat.{ℕ, ◌-◌, ◌<◌}
use native.Mathlib.Omega.{arith}
use lib.ListN.{length, get_or}
use Rattle.std.proofs.Props.{props}
use Rattle.hebrew.specs.Months.{month_length}
use Rattle.hebrew.specs.Steps.{year_date}
use Rattle.hebrew.specs.declared.YearDate.{YearDate}
use Rattle.year_dates.specs.Walk.{IsWalk, dates}
use Rattle.year_dates.specs.Left.{left}
use Rattle.year_dates.specs.declared.walk.Dates.{Dates}
use Rattle.year_dates.proofs.Turns.{dates_long, date_at}

is_walk_prop : (len : ℕ) (date : YearDate) → IsProp (IsWalk len date)
is_walk_prop len date = Prim.hlevel props

is_set_ℕ : (a b : ℕ) → IsProp (a ≡ b)
is_set_ℕ a b = Prim.hlevel props

is_at : (len x : ℕ) (r : Dates) → x < len → left r ≡ dates len x (len - x) → (r.length ≡ len) × (r.date ≡ year_date len x)
unfolding left year_date
is_at len x r h e =
    let l = sym (dates_long r.length r.date.after (r.length - r.date.after)) ∙ ap length e ∙ dates_long len x (len - x) in
    let d = year_date len x in
    let f = sym (date_at r.length r.date.after (r.length - r.date.after) 0 d (omega (arith, l))) ∙ ap (λ y. get_or y 0 d) e ∙ date_at len x (len - x) 0 d (omega arith) in
    let a = ap (λ (y : YearDate). y.after) f in
    let n : r.length ≡ len = omega (arith, l, a) in
    let b : r.date.after ≡ x = omega (arith, a) in
    (n, r.is_walk.of_year ∙ rw (n, b))

pub dates_from_one : (len x : ℕ) (r s : Dates) → x < len → left r ≡ dates len x (len - x) → left s ≡ dates len x (len - x) → r ≡ s
dates_from_one len x r s h p q =
    let a = is_at len x r h p in
    let b = is_at len x s h q in
    let n = a.0 ∙ sym b.0 in
    let d = a.1 ∙ sym b.1 in
    let m = r.counted ∙ (λ i. month_length (n i) ((d i).month)) ∙ sym s.counted in
    λ i. record {
      length = n i;
      date = d i;
      days = m i;
      is_walk = is_prop→PathP (λ j. IsWalk (n j) (d j)) (λ j. is_walk_prop (n j) (d j)) r.is_walk s.is_walk i;
      counted = is_prop→PathP (λ j. m j ≡ month_length (n j) ((d j).month)) (λ j. is_set_ℕ (m j) (month_length (n j) ((d j).month))) r.counted s.counted i;
    }
