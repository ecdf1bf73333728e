-- A list taken pair by pair.
use mathlib.Core.Path.{◌≡◌, sym, ◌∙◌, ap}
use mathlib.Core.List.{List, ◌++◌}
use Prim.Native.Nat.{ℕ, ◌+◌, ◌*◌, ◌/◌, ◌≤◌, ◌<◌}
use native.Mathlib.Omega.{arith}
use lib.ListN.{length, get_or, drop, length-append, length-drop}
use lib.Seq.{drop-drop, drop_at}
use Rattle.std.proofs.lemmas.List.{get_or-drop, get_or_append_left}

module _ (list : List ℕ) (k : ℕ) where
  -- Behind the last pair.
  pub none_left : k ≤ length list / 2 → length (drop (2 * k) list) < 2 → k ≡ length list / 2
  none_left p q = omega (arith, length-drop (2 * k) list)

  -- Pair k, and what is left behind it.
  module _ (pair rest : List ℕ) (e : drop (2 * k) list ≡ pair ++ rest) (two : length pair ≡ 2) where
    pub one_left : k < length list / 2
    one_left = omega (arith, length-drop (2 * k) list, ap length e, length-append pair rest)

    at_pair : (i : ℕ) → i < 2 → get_or pair i 0 ≡ get_or list (2 * k + i) 0
    at_pair i p =
        let q : i < length pair = omega arith in
        sym (get_or_append_left pair rest 0 i q) ∙ ap (λ (x : List ℕ). get_or x i 0) (sym e) ∙ get_or-drop (2 * k) list i 0

    pub first_of_pair : get_or pair 0 0 ≡ get_or list (2 * k) 0
    first_of_pair = let z : 2 * k + 0 ≡ 2 * k = omega arith in rw z at (at_pair 0 (omega arith))

    pub second_of_pair : get_or pair 1 0 ≡ get_or list (2 * k + 1) 0
    second_of_pair = at_pair 1 (omega arith)

    pub left_behind : rest ≡ drop (2 * (k + 1)) list
    left_behind =
        let n : 2 * k + 2 ≡ 2 * (k + 1) = omega arith in
        sym (drop_at pair rest 2 two) ∙ ap (drop 2) (sym e) ∙ drop-drop 2 (2 * k) list ∙ rw n
