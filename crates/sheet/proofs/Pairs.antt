-- A year's list of stretches by its pairs of entries.
use mathlib.Core.Path.{◌≡◌, refl, ◌∙◌}
use mathlib.Core.List.{List, [], ◌∷◌, append_assoc}
use Prim.Native.Nat.{ℕ, zero, suc, ◌+◌, ◌*◌, ◌/◌, ◌≤◌, ◌<◌}
use native.Mathlib.Omega.{arith}
use lib.ListN.{length, get_or, take}
use lib.Seq.{take-suc, take_all}
use Rattle.laws.specs.Joined.{joined}
use Rattle.stretches.specs.Promises.{Listed, here, there}

-- Entries 2k and 2k + 1.
abbrev pub pair_at : List ℕ → ℕ → List ℕ
pair_at l k = get_or l (2 * k) 0 ∷ get_or l (2 * k + 1) 0 ∷ []

taken : (l : List ℕ) (n : ℕ) → 2 * n ≤ length l → joined (pair_at l) n ≡ take (2 * n) l
unfolding joined
taken l zero p = refl
taken l (suc n) p =
    let e : 2 * suc n ≡ suc (suc (2 * n)) = omega arith in
    let f : 2 * n + 1 ≡ suc (2 * n) = omega arith in
    rw (e, f, taken l n (omega arith), take-suc l (suc (2 * n)) 0 (omega arith), take-suc l (2 * n) 0 (omega arith), append_assoc (take (2 * n) l) (get_or l (2 * n) 0 ∷ []) (get_or l (suc (2 * n)) 0 ∷ []))

-- Put one after another, the pairs are the list.
pub pairs_joined : (l : List ℕ) → 2 * (length l / 2) ≡ length l → joined (pair_at l) (length l / 2) ≡ l
pairs_joined l e = taken l (length l / 2) (omega arith) ∙ take_all (2 * (length l / 2)) l (omega arith)

-- Each pair stands in the list.
pub pair_listed : (l : List ℕ) (k : ℕ) → 2 * k + 1 < length l → Listed (get_or l (2 * k) 0) (get_or l (2 * k + 1) 0) l
pair_listed [] k p = absurd (omega arith)
pair_listed (a ∷ []) k p = absurd (omega arith)
pair_listed (a ∷ b ∷ l) zero p = here
pair_listed (a ∷ b ∷ l) (suc k) p =
    let e : 2 * suc k ≡ suc (suc (2 * k)) = omega arith in
    let f : suc (suc (2 * k)) + 1 ≡ suc (suc (2 * k + 1)) = omega arith in
    rw (e, f) (there (pair_listed l k (omega arith)))
