-- Tests that the checker computes, over a run of numbers, over a table and over both truth values; a number's place in a
-- table; and a range that a number lies outside.
use Rattle.std.specs.Prelude.{Bool, true, false, ◌&&◌, ◌||◌, cond, List, [], ◌∷◌, ℕ, zero, suc, eqb, ltb}

-- The test p passes at each of the n numbers from a on.
unfoldable pub every : ℕ → ℕ → (ℕ → Bool) → Bool
every a zero p = true
every a (suc n) p = p a && every (suc a) n p

-- The test p passes at each entry of the table.
unfoldable pub each_of : List ℕ → (ℕ → Bool) → Bool
each_of [] p = true
each_of (x ∷ l) p = p x && each_of l p

-- The test p passes for true and for false.
unfoldable pub either_way : (Bool → Bool) → Bool
either_way p = p true && p false

-- x is an entry of the list.
abbrev pub elem : ℕ → List ℕ → Bool
elem x [] = false
elem x (y ∷ l) = eqb x y || elem x l

-- The place of x in the list, counted from 1. What is no entry has the place after the last.
unfoldable pub place_in : List ℕ → ℕ → ℕ
place_in [] x = 1
place_in (y ∷ l) x = cond (eqb x y) 1 (suc (place_in l x))

-- x lies below a or above b.
abbrev pub outside : ℕ → ℕ → ℕ → Bool
outside a b x = ltb x a || ltb b x
