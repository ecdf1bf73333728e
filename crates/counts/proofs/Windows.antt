-- Numbers of a list added up, a hundred of them at a time: from one hundred to the next one comes in and one falls out.
use mathlib.Core.Path.{◌≡◌, refl}
use mathlib.Core.Bool.{Bool, true, false, ◌&&◌, false≢true}
use mathlib.Core.List.{List, [], ◌∷◌, ◌++◌}
use Prim.Native.Nat.{ℕ, zero, suc, ◌+◌, ◌-◌, ◌≤◌}
use native.Mathlib.Omega.{arith}
use borrow.Author.Tests.{leb-true}
use lib.Dec.{leb}
use lib.ListN.{length, drop, take, get_or, length-drop}
use lib.Seq.{take-suc, drop-cons, get_or-drop}
use Rattle.laws.specs.Joined.{total}
use Rattle.laws.proofs.Tests.{and_left, and_right}

-- What a list's entries count, added up.
unfoldable pub sum_of : (ℕ → ℕ) → List ℕ → ℕ
sum_of f [] = 0
sum_of f (x ∷ l) = f x + sum_of f l

module _ (f : ℕ → ℕ) where
  sum_more : (l : List ℕ) (x : ℕ) → sum_of f (l ++ (x ∷ [])) ≡ sum_of f l + f x
  unfolding sum_of
  sum_more [] x = omega arith
  sum_more (y ∷ l) x = rw (sum_more l x) (omega arith)

  pub sum_taken : (l : List ℕ) (k n : ℕ) → k + n ≤ length l → sum_of f (take n (drop k l)) ≡ total (λ i. f (get_or l (k + i) 0)) n
  unfolding sum_of total
  sum_taken l k zero p = refl
  sum_taken l k (suc n) p =
      rw (take-suc (drop k l) n 0 (rw (length-drop k l) (omega arith)), sum_more (take n (drop k l)) (get_or (drop k l) n 0), get_or-drop k l n 0, sum_taken l k n (omega arith))

  -- No hundred entries next to each other count more than `most`: s is what the list's first hundred count, and `coming` are
  -- the entries behind those.
  unfoldable pub slide : ℕ → ℕ → List ℕ → List ℕ → Bool
  slide most s [] list = leb s most
  slide most s (x ∷ coming) [] = false
  slide most s (x ∷ coming) (y ∷ list) = leb s most && slide most (s + f x - f y) coming list

  slide_first : (most s : ℕ) (coming list : List ℕ) → slide most s coming list ≡ true → s ≤ most
  unfolding slide
  slide_first most s [] list e = leb-true _ _ e
  slide_first most s (x ∷ coming) [] e = absurd (false≢true e)
  slide_first most s (x ∷ coming) (y ∷ list) e = leb-true _ _ (and_left _ _ e)

  pub slide_tells :
      (most : ℕ) (list : List ℕ) (s : ℕ) → s ≡ sum_of f (take 100 list) → slide most s (drop 100 list) list ≡ true →
      (k : ℕ) → k + 100 ≤ length list → sum_of f (take 100 (drop k list)) ≤ most
  unfolding slide sum_of
  slide_tells most list s q e zero p = omega (arith, q, slide_first most s (drop 100 list) list e)
  slide_tells most [] s q e (suc k) p = absurd (omega arith)
  slide_tells most (y ∷ list) s q e (suc k) p =
      let x = get_or list 99 0 in
      let next = rw (drop-cons list 99 0 (omega arith)) at e in
      let sum : s + f x - f y ≡ sum_of f (take 100 list) = rw (take-suc list 99 0 (omega arith), sum_more (take 99 list) x) (omega (arith, q)) in
      slide_tells most list (s + f x - f y) sum (and_right (leb s most) _ next) k (omega arith)
