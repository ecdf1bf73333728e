-- Day x of a year lies in one month: sums of months rise, and the month that holds it is the last that has begun.
use mathlib.Core.Path.{◌≡◌, refl}
use mathlib.Core.Bool.{Bool, true, false, ◌&&◌, ◌||◌, cond}
use mathlib.Core.List.{List, [], ◌∷◌}
use mathlib.Core.Logic.{by_cases}
use Prim.Native.Nat.{ℕ, zero, suc, ◌+◌, ◌-◌, ◌*◌, ◌/◌, ◌%◌, ◌≤◌, ◌<◌}
use native.Mathlib.Omega.{arith}
use native.Mathlib.Numerals.{add-one}
use native.Mathlib.Decide.{ℕ_discrete}
use borrow.Author.Tests.{eqb-true, leb-true, ltb-true}
use lib.Dec.{eqb, leb, ltb}
use Rattle.laws.specs.Runs.{every, each_of}
use Rattle.laws.proofs.Tests.{equal, of, of_at, all, facts, within, or_left}
use Rattle.laws.proofs.Counted.{begun_is}
use Rattle.molad.specs.Molad.{no_month}
use Rattle.newyear.specs.Kinds.{lengths, IsLength}
use Rattle.hebrew.specs.Months.{month_length, days_before}
use Rattle.hebrew.specs.Dates.{month_of}

pub one_more : (len c : ℕ) → days_before len (c + 1) ≡ days_before len c + month_length len c
unfolding days_before
one_more len c = rw add-one

-- The days before a month and those of the month come before every later month.
pub sums_rise : (len a b : ℕ) → a < b → days_before len a + month_length len a ≤ days_before len b
unfolding days_before
sums_rise len a zero p = absurd (omega arith)
sums_rise len a (suc b) p =
    by_cases (ℕ_discrete a b) (λ q. rw q (omega arith)) (λ q. omega (arith, sums_rise len a b (omega arith)))

pub sums_row : (len a b : ℕ) → 1 ≤ a → a ≤ b → b ≤ 13 → days_before len a ≤ days_before len b
sums_row len a b l p u = by_cases (ℕ_discrete a b) (λ q. rw q (omega arith)) (λ q. omega (arith, sums_rise len a b (omega arith)))

-- Day x of a year, counted from 0, lies in the month.
pub record InMonth (len x code : ℕ) : Type 0 where
  pub low : 1 ≤ code
  pub high : code ≤ 13
  pub from : days_before len code ≤ x
  pub before : x < days_before len code + month_length len code

pub month_is : (len x code : ℕ) → InMonth len x code → month_of len x ≡ code
unfolding month_of
month_is len x code i =
    begun_is (days_before len) 13 x code (sums_row len)
    (record { some = i.low; within = i.high; from = i.from; next = λ _. omega (arith, one_more len code) })

-- From Adar on the months have 29 and 30 days in turn.
adar_on_all : (len : ℕ) → every 7 7 (λ code. eqb (30 - code % 2) (month_length len code)) ≡ true
unfolding every month_length
adar_on_all len = refl

pub adar_on : (len code : ℕ) → 7 ≤ code → code ≤ 13 → 30 - code % 2 ≡ month_length len code
adar_on len code l u = equal 7 7 (λ code. 30 - code % 2) (month_length len) (adar_on_all len) code l (omega arith)

-- No month has more than 30 days.
shorts_all : each_of lengths (λ len. every 1 13 (λ code. leb (month_length len code) 30)) ≡ true
unfolding each_of every month_length
shorts_all = refl

pub month_short : (len code : ℕ) → IsLength len → 1 ≤ code → code ≤ 13 → month_length len code ≤ 30
month_short len code e l u =
    leb-true _ _ (of_at lengths 1 (λ _. 13) (λ len code. leb (month_length len code) 30) shorts_all len code e.among l (omega arith))

-- A month's code lies from 1 to 13.
pub code_range : (isLeap : Bool) (code : ℕ) → no_month isLeap code ≡ false → (1 ≤ code) × (code ≤ 13)
unfolding no_month
code_range isLeap code e = within 1 13 code (or_left _ _ e)

-- The months of a year add up to its length.
whole : ℕ → Bool
whole len = eqb (days_before len 14) len

whole_all : each_of lengths whole ≡ true
unfolding each_of whole days_before month_length
whole_all = refl

pub months_whole : (len : ℕ) → IsLength len → days_before len 14 ≡ len
unfolding whole
months_whole len e = eqb-true _ _ (of lengths whole whole_all len e.among)

-- What the code works out from day x of a year, as one expression.
unfoldable pub month_from : ℕ → ℕ → ℕ
month_from len x =
    cond (ltb (x + cond (leb 383 len) 236 206) len)
    ((2 * (x + 1 + cond ((eqb len 353 || eqb len 383) && leb 88 x) 1 0 - cond ((eqb len 355 || eqb len 385) && leb 59 x) 1 0) + 57) / 59)
    (13 - (2 * (len - 1 - x) + 1) / 59)

months : ℕ → ℕ → List Bool
months len x =
    let code = month_from len x in
    leb 1 code ∷ leb code 13 ∷ leb (days_before len code) x ∷ ltb x (days_before len code + month_length len code) ∷ []

months_all : each_of lengths (λ len. every 0 len (λ x. all (months len x))) ≡ true
unfolding each_of every months month_from days_before month_length
months_all = refl

pub month_from_lem : (len x : ℕ) → IsLength len → x < len → InMonth len x (month_from len x)
unfolding months
month_from_lem len x e p =
    let t = facts (months len x) (of_at lengths 0 (λ len. len) (λ len x. all (months len x)) months_all len x e.among (omega arith) (omega arith)) in
    omega (arith, leb-true, ltb-true)

-- The month that holds a day holds it.
pub month_holds : (len x : ℕ) → IsLength len → x < len → InMonth len x (month_of len x)
month_holds len x e p = let i = month_from_lem len x e p in rw (month_is len x _ i) i

-- The days before a month, as the code works them out.
unfoldable pub before_from : ℕ → ℕ → ℕ
before_from len code =
    cond (ltb 6 code)
    (len + 30 - 59 * (14 - code) / 2)
    ((59 * code + 2) / 2 + cond ((eqb len 355 || eqb len 385) && leb 3 code) 1 0 - cond ((eqb len 353 || eqb len 383) && leb 4 code) 1 0)

befores : ℕ → ℕ → List Bool
befores len code = eqb (before_from len code) (days_before len code + 30) ∷ leb (days_before len code + month_length len code) 385 ∷ []

befores_all : each_of lengths (λ len. every 1 13 (λ code. all (befores len code))) ≡ true
unfolding each_of every befores before_from days_before month_length
befores_all = refl

pub before_from_lem :
    (len code : ℕ) → IsLength len → 1 ≤ code → code ≤ 13 →
    (before_from len code ≡ days_before len code + 30) × (days_before len code + month_length len code ≤ 385)
unfolding befores
before_from_lem len code e l u =
    let t = facts (befores len code) (of_at lengths 1 (λ _. 13) (λ len code. all (befores len code)) befores_all len code e.among l (omega arith)) in
    omega (arith, leb-true, eqb-true)
