-- A year has one list of its stretches: every one, no other, rising.
use mathlib.Core.Path.{◌≡◌, refl, sym}
use mathlib.Core.List.{List, [], ◌∷◌}
use mathlib.Core.Logic.{◌⊎◌, inl, inr, ⊎_elim}
use Prim.Native.Nat.{ℕ, ◌+◌, ◌≤◌}
use native.Mathlib.Omega.{arith}
use lib.ListN.{length}
use Rattle.stretches.specs.Promises.{Listed, here, there, FirstDaysRise, StretchesOf}

-- No first day comes before the one from which they rise.
not_before : {f c : ℕ} {l : List ℕ} (from : ℕ) → FirstDaysRise from l → Listed f c l → from ≤ f
not_before from r here = r.0
not_before from r (there m) = omega (arith, r.0, not_before _ r.1 m)

-- What is listed is the first, or stands behind it.
first_or_behind : {f c g d : ℕ} {l : List ℕ} → Listed f c (g ∷ d ∷ l) → ((f ≡ g) × (c ≡ d)) ⊎ Listed f c l
first_or_behind here = inl (refl, refl)
first_or_behind (there m) = inr m

-- What is listed behind the first of one list, and stands in another with the same first, stands behind it there too.
behind : {f c g d : ℕ} {l m : List ℕ} → FirstDaysRise (g + 1) l → Listed f c l → Listed f c (g ∷ d ∷ m) → Listed f c m
behind r x y = ⊎_elim (λ e. absurd (omega (arith, not_before _ r x, e.0))) (λ z. z) (first_or_behind y)

two_entries : {f c : ℕ} {l : List ℕ} → Listed f c l → 2 ≤ length l
two_entries here = omega arith
two_entries (there m) = omega arith

alike :
    (from : ℕ) (a b : List ℕ) → FirstDaysRise from a → FirstDaysRise from b →
    ((f c : ℕ) → Listed f c a → Listed f c b) → ((f c : ℕ) → Listed f c b → Listed f c a) → a ≡ b
alike from [] [] r s p q = refl
alike from [] (f ∷ []) r s p q = absurd s
alike from [] (f ∷ c ∷ b) r s p q = absurd (omega (arith, two_entries (q f c here)))
alike from (f ∷ []) b r s p q = absurd r
alike from (f ∷ c ∷ a) [] r s p q = absurd (omega (arith, two_entries (p f c here)))
alike from (f ∷ c ∷ a) (g ∷ []) r s p q = absurd s
alike from (f ∷ c ∷ a) (g ∷ d ∷ b) r s p q =
    let same : (f ≡ g) × (c ≡ d) =
    ⊎_elim (λ e. e) (λ m. ⊎_elim (λ e. (sym e.0, sym e.1)) (λ n. absurd (omega (arith, not_before _ s.1 m, not_before _ r.1 n))) (first_or_behind (q g d here)))
    (first_or_behind (p f c here))
    in
    let rises = rw same.0 at r.1 in
    let rest = alike (g + 1) a b rises s.1 (λ x y m. behind rises m (p x y (there m))) (λ x y m. behind (rw same.0 s.1) m (q x y (there m))) in
    rw (same.0, same.1, rest)

-- So two lists of a year's stretches are one.
pub one_list : (table : List ℕ) (h : ℕ) (a b : List ℕ) → StretchesOf table h a → StretchesOf table h b → a ≡ b
one_list table h a b s t =
    alike _ a b s.rising t.rising
    (λ f c m. let o = s.only f c m in t.every f c o.0 o.1.0 o.1.1)
    (λ f c m. let o = t.only f c m in s.every f c o.0 o.1.0 o.1.1)
