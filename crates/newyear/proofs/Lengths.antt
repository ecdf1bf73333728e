-- One test over the years 1 to 10,000: each is one of the fourteen kinds, so that its length is one of the six and New Years
-- rise, and the length is 383 or more exactly in leap years.
use mathlib.Core.Path.{◌≡◌, refl, ◌∙◌}
use mathlib.Core.Bool.{Bool, true, false, ◌&&◌, not, beq}
use mathlib.Core.List.{List, [], ◌∷◌}
use mathlib.Core.Logic.{by_cases}
use Prim.Native.Nat.{ℕ, zero, suc, ◌+◌, ◌*◌, ◌-◌, ◌/◌, ◌%◌, ◌≤◌, ◌<◌}
use native.Mathlib.Omega.{arith}
use native.Mathlib.Decide.{ℕ_discrete}
use lib.Dec.{leb}
use borrow.Author.Tests.{leb-true, not-true}
use Rattle.laws.specs.Runs.{each_of, elem}
use Rattle.laws.proofs.Tests.{and_left, and_right, of, all, Each, facts, beq_true}
use Rattle.days.specs.Range.{first_day}
use Rattle.days.specs.Weekday.{weekday}
use Rattle.molad.specs.Years.{last_new_year, leap}
use Rattle.molad.proofs.Closed.{remainder, leap_remainder}
use Rattle.newyear.specs.NewYear.{new_year, year_length}
use Rattle.newyear.specs.Kinds.{lengths, IsLength, kind_code, kinds, IsKind, every_kind, kind_of}
use Rattle.newyear.proofs.Quick.{quick, new_year_quick}

-- The length of each of the fourteen kinds is one of the six.
kind_lengths : each_of kinds (λ k. elem (k % 1000) lengths && leb 353 (k % 1000)) ≡ true
unfolding each_of
kind_lengths = refl

is_length : (w len : ℕ) → len ≤ 385 → IsKind (kind_code w len) → IsLength len
is_length w len u k =
    let e : (1000 * w + len) % 1000 ≡ len = omega arith in
    let t = rw e at (of kinds (λ k. elem (k % 1000) lengths && leb 353 (k % 1000)) kind_lengths (kind_code w len) k) in
    record { among = and_left _ _ t; short = leb-true _ _ (and_right (elem len lengths) _ t); long = u }

-- A test of each kind, of one of them.
pub kind_passes : (p : ℕ → ℕ → Bool) → every_kind p ≡ true → (w len : ℕ) → IsLength len → IsKind (kind_code w len) → p w len ≡ true
unfolding every_kind
kind_passes p e w len n k =
    let a : (1000 * w + len) / 1000 ≡ w = omega (arith, n.long) in
    let b : (1000 * w + len) % 1000 ≡ len = omega (arith, n.long) in
    rw (a, b) at (of kinds (λ k. p (k / 1000) (k % 1000)) e (kind_code w len) k)

-- What the test computes of year h from its New Year a and the next one, b; the last two say that New Year h comes in
-- the h-th year of 365¼ days from day 347,700 on.
tests : ℕ → ℕ → ℕ → List Bool
tests h a b =
    elem (kind_code (weekday a) (b - a)) kinds ∷ leb (b - a) 385 ∷ beq (leb 383 (b - a)) (leb 12 (remainder h))
    ∷ leb (1461 * (h - 1) + 1390800) (4 * a) ∷ leb (4 * a) (1461 * h + 1390800) ∷ []

-- The test of n years from year h on, whose New Year is a: each New Year is worked out once.
walk : ℕ → ℕ → ℕ → Bool
walk zero h a = true
walk (suc n) h a = let b = quick (h + 1) in all (tests h a b) && walk n (h + 1) b

walk_all : walk last_new_year 1 first_day ≡ true
unfolding walk tests quick
walk_all = refl

walk_at : (n h a : ℕ) → quick h ≡ a → walk n h a ≡ true → (k : ℕ) → h ≤ k → k < h + n → all (tests k (quick k) (quick (k + 1))) ≡ true
unfolding walk
walk_at zero h a q e k l u = absurd (omega arith)
walk_at (suc n) h a q e k l u =
    by_cases (ℕ_discrete k h)
    (λ s. rw (s, q) (and_left _ _ e))
    (λ s. walk_at n (h + 1) (quick (h + 1)) refl (and_right (all (tests h a (quick (h + 1)))) _ e) k (omega arith) (omega arith))

first_quick : quick 1 ≡ first_day
unfolding quick
first_quick = refl

module _ (h : ℕ) (l : 1 ≤ h) (u : h ≤ last_new_year) where
  passed : Each (tests h (quick h) (quick (h + 1)))
  passed = facts (tests h (quick h) (quick (h + 1))) (walk_at last_new_year 1 first_day first_quick walk_all h l (omega arith))

  -- Each year is one of the fourteen kinds.
  pub kind_in : IsKind (kind_of h)
  unfolding tests year_length kind_of
  kind_in = rw (new_year_quick h l, new_year_quick (h + 1) (omega arith)) passed.0

  -- A year's length is one of the six.
  pub length_in : IsLength (year_length h)
  unfolding tests year_length kind_of
  length_in =
      is_length (weekday (new_year h)) (year_length h)
      (rw (new_year_quick h l, new_year_quick (h + 1) (omega arith)) (leb-true _ _ passed.1.0)) kind_in

  -- New Years rise.
  pub rises : new_year h < new_year (h + 1)
  unfolding year_length
  rises = omega (arith, length_in.short)

  -- A year's length is 383 or more exactly in leap years.
  pub length_leap : leb 383 (year_length h) ≡ leap h
  unfolding tests year_length
  length_leap =
      rw (new_year_quick h l, new_year_quick (h + 1) (omega arith)) (beq_true _ _ passed.1.1.0) ∙ (leap_remainder h l).0

  -- So what a test says of each kind it says of the year's own.
  pub year_passes : (p : ℕ → ℕ → Bool) → every_kind p ≡ true → p (weekday (new_year h)) (year_length h) ≡ true
  unfolding kind_of
  year_passes p e = kind_passes p e (weekday (new_year h)) (year_length h) length_in kind_in

  -- New Year never falls on Sunday, Wednesday or Friday.
  pub never_on : elem (weekday (new_year h)) (1 ∷ 4 ∷ 6 ∷ []) ≡ false
  unfolding every_kind each_of
  never_on = not-true _ (year_passes (λ w len. not (elem w (1 ∷ 4 ∷ 6 ∷ []))) refl)

  -- New Year comes in the h-th year of 365¼ days from day 347,700 on.
  pub near : (1461 * (h - 1) + 1390800 ≤ 4 * new_year h) × (4 * new_year h ≤ 1461 * h + 1390800)
  unfolding tests
  near =
      let t = passed.1.1.1 in
      rw (new_year_quick h l) (leb-true _ _ t.0, leb-true _ _ t.1.0)
