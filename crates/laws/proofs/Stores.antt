-- Lists over the start of a buffer: one more element is one store, and the list is what stands there then. Lists stored
-- from a place on.
use mathlib.Core.Path.{◌≡◌, refl, ◌∙◌, ap}
use mathlib.Core.Bool.{Bool, true, false, cond}
use mathlib.Core.List.{List, [], ◌∷◌, ◌++◌, append_assoc}
use Prim.Native.Nat.{ℕ, suc, ◌+◌, ◌≤◌, ◌<◌}
use native.Mathlib.Numerals.{add-one}
use native.Mathlib.Omega.{arith}
use lib.ListN.{length, take, set, get_or, length-append, length-take}
use lib.Seq.{drop-cons, set_at, take-suc, take-append_seam, set_comm, sets, sets-eq}
use Rattle.laws.specs.Buffer.{Lent, overwrite}

pub over_more : (e l : List ℕ) (a n : ℕ) → length l ≡ n → n < length e → set (overwrite e l) n a ≡ overwrite e (l ++ (a ∷ []))
unfolding overwrite
over_more e l a n p h = rw (p, drop-cons e n 0, set_at l _ _ a n p, append_assoc, length-append, p, add-one)

pub over_two : (e l : List ℕ) (a b n : ℕ) → length l ≡ n → n + 1 < length e → set (set (overwrite e l) n a) (n + 1) b ≡ overwrite e (l ++ (a ∷ (b ∷ [])))
over_two e l a b n p h =
    let i : n < length e = omega arith in
    let s : (l ++ (a ∷ [])) ++ (b ∷ []) ≡ l ++ (a ∷ (b ∷ [])) = append_assoc l (a ∷ []) (b ∷ []) in
    rw (over_more e l a n, over_more e (l ++ (a ∷ [])) b (n + 1) (simp length-append (omega arith)), s)

-- The next element of a list, stored after those before it.
pub over_take : (e l : List ℕ) (i : ℕ) → i < length l → length l ≤ length e → set (overwrite e (take i l)) i (get_or l i 0) ≡ overwrite e (take (i + 1) l)
over_take e l i h u =
    let n : length (take i l) ≡ i = simp length-take (omega arith) in
    let r : i < length e = omega arith in rw (over_more e (take i l) (get_or l i 0) i, add-one, take-suc l i 0 h)

-- What a call that is done has written.
pub list_written : (list before after : List ℕ) (number n : ℕ) → Lent number list before after → number ≡ 0 → length list ≡ n → take n after ≡ list
list_written list before after number n t z e = rw (t.written z, ← e) (take-append_seam list _)

-- A list stored behind another is stored with it.
pub sets_more : (e l m : List ℕ) (i j : ℕ) → i + length l ≡ j → sets (sets e i l) j m ≡ sets e i (l ++ m)
sets_more e [] m i j p = let q : j ≡ i = omega arith in rw q
sets_more e (a ∷ l) m i j p = sets_more (set e i a) l m (suc i) j (omega arith)

pub sets_three :
    (e l m n : List ℕ) (i j k : ℕ) → i + length l ≡ j → j + length m ≡ k → sets (sets (sets e i l) j m) k n ≡ sets e i (l ++ m ++ n)
sets_three e l m n i j k p q = rw (sets_more e l m i j p) (sets_more e (l ++ m) n i k (rw (length-append l m) (omega arith)))

-- What is stored in two places that do not meet may be stored in either order.
set_apart : (e l : List ℕ) (a i j : ℕ) → i < j → sets (set e i a) j l ≡ set (sets e j l) i a
set_apart e [] a i j p = refl
set_apart e (b ∷ l) a i j p =
    let n : i ≡ j → ⊥ = λ q. omega arith in
    rw (set_comm e i j a b n) (set_apart (set e j b) l a i (suc j) (omega arith))

pub sets_apart : (e l m : List ℕ) (i j : ℕ) → i + length l ≤ j → sets (sets e i l) j m ≡ sets (sets e j m) i l
sets_apart e [] m i j p = refl
sets_apart e (a ∷ l) m i j p =
    sets_apart (set e i a) l m (suc i) j (omega arith) ∙ ap (λ (x : List ℕ). sets x (suc i) l) (set_apart e m a i j (omega arith))

-- Stored from the start on, a list is over the start.
pub sets_over : (e l : List ℕ) → length l ≤ length e → sets e 0 l ≡ overwrite e l
unfolding overwrite
sets_over e l p = let z : 0 + length l ≡ length l = omega arith in rw z at (sets-eq l e 0 (omega arith))

-- A buffer that is lent to a call: where it is done the list stands over its start.
pub lent_done : (number : ℕ) (list before : List ℕ) → number ≡ 0 → Lent number list before (overwrite before list)
unfolding overwrite
lent_done number list before z = record { untouched = λ e. absurd (omega arith); written = λ _. refl }

-- And where a test refuses it stays as it was.
pub lent_unless :
    {A : Type 0} (number : A → ℕ) (test : Bool) (refused r : A) (list before after : List ℕ) → 1 ≤ number refused →
    Lent (number r) list before after → Lent (number (cond test refused r)) list before (cond test before after)
lent_unless number true refused r list before after l t = record { untouched = λ _. refl; written = λ e. absurd (omega arith) }
lent_unless number false refused r list before after l t = t
