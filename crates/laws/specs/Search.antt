-- Searches: the first place at which a test passes, and the run of places that passes belong to.
use Rattle.std.specs.Prelude.{◌≡◌, Bool, true, false, not, cond, ℕ, zero, suc, ◌+◌, ◌-◌, ◌≤◌, ◌<◌}

-- The first of the n numbers from j on at which the test passes; j + n where there is none.
unfoldable pub seek : (ℕ → Bool) → ℕ → ℕ → ℕ
seek p zero j = j
seek p (suc n) j = cond (p j) j (seek p n (suc j))

-- The first of the n numbers from j on at which the test fails; j + n where there is none.
unfoldable pub seek_not : (ℕ → Bool) → ℕ → ℕ → ℕ
seek_not p n j = seek (λ k. not (p k)) n j

-- Where the run of passes that ends just before j begins.
unfoldable pub run_start : (ℕ → Bool) → ℕ → ℕ
run_start p zero = 0
run_start p (suc k) = cond (p k) (run_start p k) (suc k)

-- A longest run: neighbours that all pass, with a failure on each side.
pub record Run (p : ℕ → Bool) (first count : ℕ) : Type 0 where
  pub some : 1 ≤ count
  pub passes : (d : ℕ) → first ≤ d → d < first + count → p d ≡ true
  pub before : p (first - 1) ≡ false
  pub after : p (first + count) ≡ false
