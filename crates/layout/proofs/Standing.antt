-- Where bytes tell a number, the bytes that a writer stores for it stand; and what stands part by part stands whole.
use mathlib.Core.Path.{◌≡◌, refl, sym, ◌∙◌}
use mathlib.Core.List.{List, ◌++◌}
use Prim.Native.Nat.{ℕ, zero, suc, ◌+◌, ◌/◌, ◌%◌, ◌≤◌, ◌<◌}
use native.Mathlib.Omega.{arith}
use native.Mathlib.Numerals.{add-one}
use lib.ListN.{length, get_or, take, drop, length-append}
use lib.Seq.{drop-cons, take-add, drop-drop, take_all}
use Rattle.laws.specs.Joined.{joined}
use Rattle.layout.specs.Layout.{little_endian}
use Rattle.layout.specs.Reading.{Bytes, number_at}
use Rattle.layout.proofs.Numbers.{little_long, number_more}

-- The list stands in the bytes from a place on.
abbrev pub Stands : List ℕ → ℕ → List ℕ → Type 0
Stands bytes at list = take (length list) (drop at bytes) ≡ list

module _ (bytes : List ℕ) where
  -- One list behind another.
  pub stands_both : (at k : ℕ) (a b : List ℕ) → Stands bytes at a → Stands bytes k b → at + length a ≡ k → Stands bytes at (a ++ b)
  stands_both at k a b p q e = rw (length-append, take-add (length a) (length b) (drop at bytes), drop-drop (length a) at bytes, e, p, q)

  pub stands_each : (at : ℕ) (part : ℕ → List ℕ) (n : ℕ) → ((i : ℕ) → i < n → Stands bytes (at + length (joined part i)) (part i)) → Stands bytes at (joined part n)
  unfolding joined
  stands_each at part zero f = refl
  stands_each at part (suc n) f = stands_both at _ (joined part n) (part n) (stands_each at part n (λ i p. f i (omega arith))) (f n (omega arith)) refl

  -- All of it.
  pub stands_whole : (list : List ℕ) → Stands bytes 0 list → length bytes ≡ length list → bytes ≡ list
  stands_whole list p e = sym (take_all (length list) bytes (omega arith)) ∙ p

  -- A number.
  module _ (all : Bytes bytes) where
    number_stands : (at n : ℕ) → at + n ≤ length bytes → take n (drop at bytes) ≡ little_endian n (number_at bytes at n)
    unfolding little_endian
    number_stands at zero p = refl
    number_stands at (suc n) p =
        let first = all at (omega arith) in
        let more = number_more bytes at n (omega arith) in
        let low : number_at bytes at (suc n) % 256 ≡ get_or bytes at 0 = omega (arith, first, more) in
        let high : number_at bytes at (suc n) / 256 ≡ number_at bytes (at + 1) n = omega (arith, first, more) in
        rw (low, high, ← number_stands (at + 1) n (omega arith), drop-cons bytes at 0 (omega arith), add-one at)

    pub stands_number : (at n x : ℕ) → at + n ≤ length bytes → number_at bytes at n ≡ x → Stands bytes at (little_endian n x)
    stands_number at n x p e = rw (little_long n x, ← e) (number_stands at n p)

    pub stands_three :
        (at a b c x y z : ℕ) → at + (a + (b + c)) ≤ length bytes →
        number_at bytes at a ≡ x → number_at bytes (at + a) b ≡ y → number_at bytes (at + (a + b)) c ≡ z →
        Stands bytes at (little_endian a x ++ little_endian b y ++ little_endian c z)
    stands_three at a b c x y z p e f g =
        let first = little_endian a x in
        let second = little_endian b y in
        let two = stands_both at (at + a) first second (stands_number at a x (omega arith) e) (stands_number (at + a) b y (omega arith) f) (rw (little_long a x)) in
        stands_both at (at + (a + b)) (first ++ second) (little_endian c z) two (stands_number (at + (a + b)) c z (omega arith) g)
        (rw (length-append first second, little_long a x, little_long b y))
