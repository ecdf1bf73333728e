-- Rows and years compared one after another.
use mathlib.Core.Path.{◌≡◌, refl}
use mathlib.Core.Bool.{Bool, true, false, ◌&&◌}
use mathlib.Core.List.{List}
use Prim.Native.Nat.{ℕ, ◌+◌, ◌*◌, ◌<◌}
use native.Mathlib.Omega.{arith}
use lib.ListN.{get_or}
use Rattle.laws.proofs.Tests.{at, every_more, clash}
use Rattle.content.specs.Content.{row_agrees, rows_agree, year_agrees, content_agrees}

-- One row more.
pub row_more :
    (wing : ℕ) (bytes : List ℕ) (place : ℕ) (list : List ℕ) (k : ℕ) →
    rows_agree wing bytes place list (k + 1) ≡ rows_agree wing bytes place list k && row_agrees wing bytes (place + 6 * k) (get_or list (2 * k) 0) (get_or list (2 * k + 1) 0)
unfolding rows_agree
row_more wing bytes place list k =
    let z : 0 + k ≡ k = omega arith in
    rw (every_more 0 k (λ k. row_agrees wing bytes (place + 6 * k) (get_or list (2 * k) 0) (get_or list (2 * k + 1) 0)), z)

module _ (wing : ℕ) (bytes : List ℕ) (h : ℕ) where
  -- One year more.
  pub year_more : (i : ℕ) → content_agrees wing bytes h (i + 1) ≡ content_agrees wing bytes h i && year_agrees wing bytes i (h + i)
  unfolding content_agrees
  year_more i =
      let z : 0 + i ≡ i = omega arith in
      rw (every_more 0 i (λ i. year_agrees wing bytes i (h + i)), z)

  -- One year that differs is enough.
  pub year_differs : (years i : ℕ) → i < years → year_agrees wing bytes i (h + i) ≡ false → content_agrees wing bytes h years ≡ false
  unfolding content_agrees
  year_differs years i p e = go (content_agrees wing bytes h years) refl
    where
      go : (b : Bool) → content_agrees wing bytes h years ≡ b → content_agrees wing bytes h years ≡ false
      go true q = absurd (clash (year_agrees wing bytes i (h + i)) (at 0 years (λ i. year_agrees wing bytes i (h + i)) q i (omega arith) (omega arith)) e)
      go false q = q
