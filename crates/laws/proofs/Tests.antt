-- What a computed test says of a run of numbers, of a table or of both truth values holds at each place.
use mathlib.Core.Path.{◌≡◌, refl, sym, ◌∙◌}
use mathlib.Core.Bool.{Bool, true, false, ◌&&◌, ◌||◌, cond, beq, and-true, and_assoc, false≢true}
use mathlib.Core.List.{List, [], ◌∷◌}
use mathlib.Core.Logic.{by_cases}
use Prim.Native.Nat.{ℕ, zero, suc, ◌+◌, ◌-◌, ◌≤◌, ◌<◌}
use native.Mathlib.Omega.{arith}
use native.Mathlib.Decide.{ℕ_discrete}
use borrow.Author.Tests.{eq-eqb, eqb-true, ne_eqb, ltb-false}
use lib.Dec.{eqb, ltb}
use lib.ListN.{length, get_or}
use Rattle.laws.specs.Runs.{every, each_of, either_way, elem, place_in, outside}

pub and_left : (a b : Bool) → a && b ≡ true → a ≡ true
and_left true b e = refl
and_left false b e = e

pub and_right : (a b : Bool) → a && b ≡ true → b ≡ true
and_right true b e = e
and_right false b e = cc

pub or_left : (a b : Bool) → a || b ≡ false → a ≡ false
or_left true b e = e
or_left false b e = refl

pub or_right : (a b : Bool) → a || b ≡ false → b ≡ false
or_right true b e = cc
or_right false b e = e

-- No test both passes and fails.
pub clash : (b : Bool) → b ≡ true → b ≡ false → ⊥
clash b p q = false≢true (sym q ∙ p)

-- Two tests that agree are equal.
pub beq_true : (a b : Bool) → beq a b ≡ true → a ≡ b
beq_true true true e = refl
beq_true true false e = sym e
beq_true false true e = e
beq_true false false e = refl

-- A choice between two numbers is no larger than a bound of both.
pub cond_le : (b : Bool) (x y n : ℕ) → x ≤ n → y ≤ n → cond b x y ≤ n
cond_le true x y n p q = p
cond_le false x y n p q = q

-- One level: a run of numbers, and a table.
pub at : (a n : ℕ) (p : ℕ → Bool) → every a n p ≡ true → (k : ℕ) → a ≤ k → k < a + n → p k ≡ true
unfolding every
at a zero p e k l h = absurd (omega arith)
at a (suc n) p e k l h =
    by_cases (ℕ_discrete k a)
    (λ q. rw q (and_left _ _ e))
    (λ q. at (suc a) n p (and_right (p a) _ e) k (omega arith) (omega arith))

pub of : (l : List ℕ) (p : ℕ → Bool) → each_of l p ≡ true → (x : ℕ) → elem x l ≡ true → p x ≡ true
unfolding each_of
of [] p e x h = absurd (let z : ◌≡◌ {A = ℕ} 0 1 = cc in omega arith)
of (y ∷ l) p e x h =
    by_cases (ℕ_discrete x y)
    (λ q. rw q (and_left _ _ e))
    (λ q. of l p (and_right (p y) _ e) x (rw (ne_eqb x y q) at h))

pub whether : (p : Bool → Bool) → either_way p ≡ true → (b : Bool) → p b ≡ true
unfolding either_way
whether p e true = and_left _ _ e
whether p e false = and_right (p true) _ e

-- The entry by its index.
pub each_at : (l : List ℕ) (p : ℕ → Bool) → each_of l p ≡ true → (i : ℕ) → i < length l → p (get_or l i 0) ≡ true
unfolding each_of
each_at [] p e i h = absurd (omega arith)
each_at (x ∷ l) p e zero h = and_left _ _ e
each_at (x ∷ l) p e (suc i) h = each_at l p (and_right (p x) _ e) i (omega arith)

-- An entry stands at its place.
pub place_of : (l : List ℕ) (x : ℕ) → elem x l ≡ true → (1 ≤ place_in l x) × (place_in l x ≤ length l) × (get_or l (place_in l x - 1) 0 ≡ x)
unfolding place_in
place_of [] x h = absurd (let z : ◌≡◌ {A = ℕ} 0 1 = cc in omega arith)
place_of (y ∷ l) x h =
    by_cases (ℕ_discrete x y)
    (λ q. rw (eq-eqb x y q) (omega arith, omega arith, sym q))
    (λ q.
    let p = place_of l x (rw (ne_eqb x y q) at h) in
    let e : suc (place_in l x) - 1 ≡ suc (place_in l x - 1) = omega (arith, p.0) in
    rw (ne_eqb x y q) (omega arith, omega (arith, p.1), rw e p.2))

-- A test that passes at each of them passes.
pub passed : (a n : ℕ) (p : ℕ → Bool) → ((k : ℕ) → a ≤ k → k < a + n → p k ≡ true) → every a n p ≡ true
unfolding every
passed a zero p f = refl
passed a (suc n) p f = rw (f a (omega arith) (omega arith), passed (suc a) n p (λ k l u. f k (omega arith) (omega arith)))

-- Two tests that agree on a run of numbers, or on all.
pub every_alike : (a n : ℕ) (p q : ℕ → Bool) → ((k : ℕ) → a ≤ k → k < a + n → p k ≡ q k) → every a n p ≡ every a n q
unfolding every
every_alike a zero p q f = refl
every_alike a (suc n) p q f =
    rw (f a (omega arith) (omega arith), every_alike (suc a) n p q (λ k l u. f k (omega arith) (omega arith)))

-- One number more.
pub every_more : (a n : ℕ) (p : ℕ → Bool) → every a (n + 1) p ≡ every a n p && p (a + n)
unfolding every
every_more a zero p = let e : a + 0 ≡ a = omega arith in rw (e, and-true (p a))
every_more a (suc n) p =
    let m : suc n + 1 ≡ suc (n + 1) = omega arith in
    let e : a + suc n ≡ suc a + n = omega arith in
    rw (m, e, every_more (suc a) n p) (sym (and_assoc (p a) (every (suc a) n p) (p (suc a + n))))

-- A test that compares two functions.
pub equal : (a n : ℕ) (f g : ℕ → ℕ) → every a n (λ k. eqb (f k) (g k)) ≡ true → (k : ℕ) → a ≤ k → k < a + n → f k ≡ g k
equal a n f g e k l h = eqb-true _ _ (at a n (λ k. eqb (f k) (g k)) e k l h)

-- Two levels: the second run goes by the first number.
pub at2 :
    (a n b : ℕ) (m : ℕ → ℕ) (p : ℕ → ℕ → Bool) → every a n (λ i. every b (m i) (p i)) ≡ true →
    (i j : ℕ) → a ≤ i → i < a + n → b ≤ j → j < b + m i → p i j ≡ true
at2 a n b m p e i j l h l2 h2 = at b (m i) (p i) (at a n (λ i. every b (m i) (p i)) e i l h) j l2 h2

pub of_at :
    (l : List ℕ) (b : ℕ) (m : ℕ → ℕ) (p : ℕ → ℕ → Bool) → each_of l (λ x. every b (m x) (p x)) ≡ true →
    (x j : ℕ) → elem x l ≡ true → b ≤ j → j < b + m x → p x j ≡ true
of_at l b m p e x j i l2 h2 = at b (m x) (p x) (of l (λ x. every b (m x) (p x)) e x i) j l2 h2

-- What does not lie outside lies within.
pub within : (a b x : ℕ) → outside a b x ≡ false → (a ≤ x) × (x ≤ b)
within a b x e = (ltb-false _ _ (or_left _ _ e), ltb-false _ _ (or_right (ltb x a) _ e))

-- Several tests as one, and what each of them says.
abbrev pub all : List Bool → Bool
all [] = true
all (b ∷ l) = b && all l

abbrev pub Each : List Bool → Type 0
Each [] = Unit {0}
Each (b ∷ l) = (b ≡ true) × Each l

pub facts : (l : List Bool) → all l ≡ true → Each l
facts [] e = tt
facts (b ∷ l) e = (and_left _ _ e, facts l (and_right b _ e))
