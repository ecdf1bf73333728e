-- A move's test of the day: that the record's day is in range, and the day that it comes to.
use Rattle.std.proofs.Common.{arith, ◌≡◌, ◌||◌, ℕ, ◌+◌, ◌-◌, ◌≤◌, ◌<◌}
use borrow.Author.Tests.{ltb-true, ltb-false, leb-true, leb-false}
use lib.Dec.{leb, ltb}
use Rattle.laws.proofs.Promises.{Catches, ranged, either, caught_alike}
use Rattle.days.specs.Range.{first_day, last_day, out_of_range}

below : (a b : ℕ) → Catches (ltb a b) (b ≤ a)
below a b = record { passes = ltb-false a b; catches = λ e m. omega (arith, ltb-true a b e) }

at_most : (a b : ℕ) → Catches (leb a b) (b < a)
at_most a b = record { passes = leb-false a b; catches = λ e m. omega (arith, leb-true a b e) }

module _ (j : ℕ) where
  on_caught : Catches (ltb j first_day || leb last_day j) ((first_day ≤ j) × (j < last_day))
  on_caught = either (below j first_day) (at_most last_day j)

  back_caught : Catches (leb j first_day || ltb last_day j) ((first_day < j) × (j ≤ last_day))
  back_caught = either (at_most j first_day) (below last_day j)

  pub on_tested : ltb j first_day || leb last_day j ≡ out_of_range j || out_of_range (j + 1)
  on_tested =
      caught_alike on_caught (either (ranged first_day last_day j) (ranged first_day last_day (j + 1))) (λ m. omega arith) (λ m. omega arith)

  pub back_tested : leb j first_day || ltb last_day j ≡ out_of_range j || out_of_range (j - 1)
  back_tested =
      caught_alike back_caught (either (ranged first_day last_day j) (ranged first_day last_day (j - 1))) (λ m. omega arith) (λ m. omega arith)
