-- What an answer promises its caller. A call asks something of its arguments, one thing after another, and each has a
-- refusal number. Where all that is asked is met the answer is done, number 0, and tells these values; else it is
-- refused with the number of the first that is not met, and its other numbers are these.
use Rattle.std.specs.Prelude.{◌≡◌, List, [], ◌∷◌, ◌↔◌, ◌⊎◌, ℕ, ◌≤◌}

pub record Asked : Type 1 where
  pub met : Type 0
  pub refusal : ℕ

-- What is asked, and the refusal number that is given where it is the first not to be met.
infix 80 ◌else◌
abbrev pub ◌else◌ : Type 0 → ℕ → Asked
met else n = record { met = met; refusal = n }

abbrev pub AllMet : List Asked → Type 0
AllMet [] = Unit {0}
AllMet (a ∷ asked) = a.met × AllMet asked

-- The first that is not met has number n.
abbrev pub FirstUnmet : List Asked → ℕ → Type 0
FirstUnmet [] n = ⊥
FirstUnmet (a ∷ asked) n = ((¬ a.met) × (a.refusal ≡ n)) ⊎ (a.met × FirstUnmet asked n)

-- One that is not met has number n.
abbrev pub Unmet : List Asked → ℕ → Type 0
Unmet [] n = ⊥
Unmet (a ∷ asked) n = ((¬ a.met) × (a.refusal ≡ n)) ⊎ Unmet asked n

-- The numbers rise, the first being m or more: document 01's order, in which the first not met is the smallest.
abbrev pub Rising : ℕ → List Asked → Type 0
Rising m [] = Unit {0}
Rising m (a ∷ asked) = (m ≤ a.refusal) × Rising a.refusal asked

-- The promise of an answer r whose refusal number is `number r`.
pub record Promised {A : Type 0} (number : A → ℕ) (asked : List Asked) (Values : A → Type 0) (Besides : ℕ → A → Type 0) (r : A) : Type 0 where
  pub done : (number r ≡ 0) ↔ AllMet asked
  pub values : AllMet asked → Values r
  pub refused : (n : ℕ) → 1 ≤ n → (number r ≡ n) ↔ FirstUnmet asked n
  pub besides : (n : ℕ) → FirstUnmet asked n → Besides n r

-- Where several are not met the answer has the smallest of their numbers.
abbrev pub Smallest : {A : Type 0} {number : A → ℕ} {asked : List Asked} {Values : A → Type 0} {Besides : ℕ → A → Type 0} {r : A} → Promised number asked Values Besides r → Type 0
Smallest {number} {asked} {r} p = (k : ℕ) → Unmet asked k → number r ≤ k

-- The same of all that is asked after the first, where the first is met.
abbrev pub SmallestAfter :
    {A : Type 0} {number : A → ℕ} {a : Asked} {asked : List Asked} {Values : A → Type 0} {Besides : ℕ → A → Type 0} {r : A} →
    Promised number (a ∷ asked) Values Besides r → Type 0
SmallestAfter {number} {a} {asked} {r} p = a.met → (k : ℕ) → Unmet asked k → number r ≤ k
