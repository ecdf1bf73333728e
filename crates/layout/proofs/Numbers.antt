-- A number that its bytes can hold is read back from them.
use mathlib.Core.Path.{◌≡◌, refl, ap}
use mathlib.Core.List.{List, [], ◌∷◌, ◌++◌}
use Prim.Native.Nat.{ℕ, zero, suc, ◌+◌, ◌*◌, ◌-◌, ◌/◌, ◌≤◌, ◌<◌}
use native.Mathlib.Omega.{arith}
use native.Mathlib.Numerals.{add-one}
use lib.ListN.{length, get_or, take, drop, length-append, length-drop}
use lib.Seq.{drop-cons, length-take-le, take-add, take-take, drop-drop, drop_at}
use Rattle.laws.proofs.Joins.{Holds, held_part, holds_in, holds_first, holds_second}
use Rattle.layout.specs.Layout.{little_endian}
use Rattle.layout.specs.Reading.{worth, number_at}

-- The lowest byte comes first.
pub lowest_first : little_endian 4 (4 + 256 * (3 + 256 * (2 + 256 * 1))) ≡ 4 ∷ 3 ∷ 2 ∷ 1 ∷ []
unfolding little_endian
lowest_first = refl

-- How many numbers n bytes can tell apart.
abbrev pub capacity : ℕ → ℕ
capacity zero = 1
capacity (suc n) = 256 * capacity n

pub little_long : (n x : ℕ) → length (little_endian n x) ≡ n
unfolding little_endian
little_long zero x = refl
little_long (suc n) x = ap suc (little_long n _)

worth_of : (n x : ℕ) → x < capacity n → worth (little_endian n x) ≡ x
unfolding little_endian worth
worth_of zero x p = omega arith
worth_of (suc n) x p = rw (worth_of n (x / 256) (omega arith)) (omega arith)

pub read_back : (bytes : List ℕ) (at n x : ℕ) → Holds bytes at (little_endian n x) → x < capacity n → number_at bytes at n ≡ x
unfolding number_at
read_back bytes at n x h p = rw (held_part bytes (little_endian n x) at n h (little_long n x)) (worth_of n x p)

-- Numbers that stand one after another.
pub holds_left : (bytes a b : List ℕ) (at : ℕ) → Holds bytes at (a ++ b) → Holds bytes at a
holds_left bytes a b at h = holds_in bytes (a ++ b) a at 0 at h (holds_first a b) (omega arith)

pub holds_right : (bytes a b : List ℕ) (at k : ℕ) → Holds bytes at (a ++ b) → at + length a ≡ k → Holds bytes k b
holds_right bytes a b at k h e = holds_in bytes (a ++ b) b at (length a) k h (holds_second a b (length a) refl) e

pub three_back :
    (bytes : List ℕ) (at a b c x y z : ℕ) → Holds bytes at (little_endian a x ++ little_endian b y ++ little_endian c z) →
    x < capacity a → y < capacity b → z < capacity c →
    (number_at bytes at a ≡ x) × ((number_at bytes (at + a) b ≡ y) × (number_at bytes (at + (a + b)) c ≡ z))
three_back bytes at a b c x y z h p q r =
    let first = little_endian a x in
    let second = little_endian b y in
    let two = holds_left bytes (first ++ second) (little_endian c z) at h in
    let third = holds_right bytes (first ++ second) (little_endian c z) at (at + (a + b)) h (rw (length-append first second, little_long a x, little_long b y)) in (
      read_back bytes at a x (holds_left bytes first second at two) p,
      (read_back bytes (at + a) b y (holds_right bytes first second at (at + a) two (rw (little_long a x))) q, read_back bytes (at + (a + b)) c z third r),
    )

-- The first byte counts once, those behind it 256 times as much.
pub number_more : (bytes : List ℕ) (at n : ℕ) → at < length bytes → number_at bytes at (suc n) ≡ get_or bytes at 0 + 256 * number_at bytes (at + 1) n
unfolding number_at worth
number_more bytes at n p = rw (drop-cons bytes at 0 p, add-one at)

pub number_one : (bytes : List ℕ) (at : ℕ) → at < length bytes → number_at bytes at 1 ≡ get_or bytes at 0
unfolding number_at worth
number_one bytes at p = rw (drop-cons bytes at 0 p) (omega arith)

-- Two bytes, and those behind them.
pub number_two : (bytes : List ℕ) (at n : ℕ) → at + 1 < length bytes → number_at bytes at (suc (suc n)) ≡ number_at bytes at 2 + 65536 * number_at bytes (at + 2) n
number_two bytes at n p =
    let e : at + 1 + 1 ≡ at + 2 = omega arith in
    let first = number_more bytes at (suc n) (omega arith) in
    let second = rw e at (number_more bytes (at + 1) n p) in
    omega (arith, first, second, number_more bytes at 1 (omega arith), number_one bytes (at + 1) p)

-- What stands in a part stands in the whole.
in_part : (list : List ℕ) (n j m : ℕ) → j + m ≤ n → n ≤ length list → take m (drop j (take n list)) ≡ take m (drop j list)
in_part list n j m p q =
    let e : n ≡ j + (n - j) = omega arith in
    rw (e, take-add j (n - j) list, drop_at (take j list) (take (n - j) (drop j list)) j (length-take-le j list (omega arith)), take-take m (n - j) (drop j list) (omega arith))

pub number_in_part : (bytes : List ℕ) (at n j m : ℕ) → j + m ≤ n → at + n ≤ length bytes → number_at (take n (drop at bytes)) j m ≡ number_at bytes (at + j) m
unfolding number_at
number_in_part bytes at n j m p q =
    rw (in_part (drop at bytes) n j m p (rw (length-drop at bytes) (omega arith)), drop-drop j at bytes)
