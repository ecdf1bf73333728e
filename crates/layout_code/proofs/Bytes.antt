-- The library's bytes of a number, the lowest first, and its number of bytes are this sheet's.
use mathlib.Core.Path.{◌≡◌, refl, sym, ◌∙◌}
use mathlib.Core.List.{List, [], ◌∷◌, ◌++◌, append_assoc}
use Prim.Native.Nat.{ℕ, zero, suc, ◌+◌, ◌*◌, ◌/◌, ◌%◌, ◌^◌, ◌≤◌, ◌<◌}
use native.Mathlib.Omega.{arith}
use native.Mathlib.Nat.{pow-suc, div-div-eq-div-mul, div-one}
use lib.ListN.{length, get_or, take, drop, length-drop, length-append}
use lib.Seq.{length-take-le, sets-eq, drop-drop}
use Rattle.std.specs.Int.{w64, byte_at, bytes_low_first, to_le_bytes, from_le_bytes}
use Rattle.std.proofs.lemmas.List.{drop_all, get_or-take, get_or-drop}
use Rattle.std.proofs.lemmas.List.Edits.{sets}
use borrow.Rule.Slice.PartMut.{put_mid}
use Rattle.layout.specs.Layout.{little_endian}
use Rattle.layout.proofs.Numbers.{little_long}
use Rattle.layout.specs.Reading.{Bytes, worth, number_at}

byte_there : (i x : ℕ) → byte_at i x ≡ x / 256 ^ i % 256
byte_there zero x = rw (div-one x)
byte_there (suc i) x = refl

-- The first bytes, from byte i on.
low_bytes : (i n k x : ℕ) → n ≤ k → take n (bytes_low_first i k x) ≡ little_endian n (x / 256 ^ i)
unfolding little_endian
low_bytes i zero k x p = refl
low_bytes i (suc n) zero x p = absurd (omega arith)
low_bytes i (suc n) (suc k) x p =
    let e : x / 256 ^ suc i ≡ x / 256 ^ i / 256 = rw (pow-suc 256 i) (sym (div-div-eq-div-mul x (256 ^ i) 256)) in
    rw (byte_there i x, low_bytes (suc i) n k x (omega arith), e)

pub stored : (n x : ℕ) → n ≤ 8 → take n (to_le_bytes w64 x) ≡ little_endian n x
stored n x p = rw (low_bytes 0 n 8 x p, div-one x)

-- Zeros behind bytes count nothing.
worth_rest : (n : ℕ) (list : List ℕ) → worth list ≡ 0 → worth (drop n list) ≡ 0
unfolding worth
worth_rest zero list e = e
worth_rest (suc n) [] e = refl
worth_rest (suc n) (a ∷ list) e = worth_rest n list (omega arith)

worth_before : (list rest : List ℕ) → worth rest ≡ 0 → worth (list ++ rest) ≡ worth list
unfolding worth
worth_before [] rest e = e
worth_before (a ∷ list) rest e = rw (worth_before list rest e)

-- Bytes tell less than 256 to the power of how many there are.
worth_small : (list : List ℕ) → Bytes list → worth list < 256 ^ length list
unfolding worth
worth_small [] b = omega arith
worth_small (a ∷ list) b = omega (arith, b 0 (omega arith), worth_small list (λ i p. b (suc i) (omega arith)), pow-suc 256 (length list))

-- The library's number of eight bytes.
worth_more : (list : List ℕ) (k : ℕ) → worth (drop k list) ≡ get_or list k 0 + 256 * worth (drop (suc k) list)
unfolding worth
worth_more [] zero = refl
worth_more [] (suc k) = refl
worth_more (a ∷ list) zero = refl
worth_more (a ∷ list) (suc k) = worth_more list k

eight_worth : (list : List ℕ) → length list ≡ 8 → from_le_bytes w64 list ≡ worth list
unfolding worth
eight_worth list p =
    let m = worth_more list in
    let none : worth (drop 8 list) ≡ 0 = rw (drop_all 8 list (omega arith)) in
    omega (arith, m 0, m 1, m 2, m 3, m 4, m 5, m 6, m 7, none)

-- A number's first bytes, stored from a place on.
pub put_stored :
    (out part : List ℕ) (at n k x : ℕ) → n ≤ 8 → at + n ≤ length out → k ≡ n → part ≡ take n (to_le_bytes w64 x) →
    put_mid at k out part ≡ sets out at (little_endian n x)
put_stored out part at n k x few room e q =
    let bytes = little_endian n x in
    let long = little_long n x in
    rw (q, stored n x few, e, sets-eq bytes out at (rw long room), long, drop-drop n at out) (sym (append_assoc (take at out) bytes (drop (at + n) out)))

-- Bytes read into the first of eight zeros.
abbrev zeros : List ℕ
zeros = 0 ∷ 0 ∷ 0 ∷ 0 ∷ 0 ∷ 0 ∷ 0 ∷ 0 ∷ []

module _ (bytes part : List ℕ) (at n k : ℕ) (room : at + n ≤ length bytes) (few : n ≤ 8) (e : k ≡ n) (is : part ≡ take k (drop at bytes)) where
  long : length part ≡ n
  long = rw (is, e) (length-take-le n (drop at bytes) (rw (length-drop at bytes) (omega arith)))

  pub read : from_le_bytes w64 (part ++ drop n zeros) ≡ number_at bytes at n
  unfolding number_at worth
  read =
      eight_worth (part ++ drop n zeros) (rw (length-append, long, length-drop n zeros) (omega arith))
      ∙ worth_before part (drop n zeros) (worth_rest n zeros refl)
      ∙ rw (is, e)

  part_small : ((i : ℕ) → get_or bytes i 0 < 256) → Bytes part
  part_small b i p =
      let q : i < n = rw long at p in
      rw (is, e, get_or-take n (drop at bytes) i 0 q, get_or-drop at bytes i 0) (b (at + i))

  pub read_small : ((i : ℕ) → get_or bytes i 0 < 256) → number_at bytes at n < 256 ^ n
  unfolding number_at
  read_small b = rw (long, is, e) at (worth_small part (part_small b))
