-- What linear arithmetic does not find of quotients and remainders: what a * h + b leaves in a cycle of m,
-- and how often m goes into it, by the place of h in the cycle.
use mathlib.Core.Path.{◌≡◌, ap}
use Prim.Native.Nat.{ℕ, zero, ◌+◌, ◌*◌, ◌/◌, ◌%◌, ◌<◌}
use native.Mathlib.Omega.{arith}
use native.Mathlib.Nat.{div-add-mod, mul-add, mul_left_comm, mul-add-div, mul-add-mod_self_left}

module _ (a b m h : ℕ) where
  apart : a * h + b ≡ m * (a * (h / m)) + (a * (h % m) + b)
  apart = omega (arith, ap (λ (x : ℕ). a * x) (div-add-mod h m), mul-add a (m * (h / m)) (h % m), mul_left_comm a m (h / m))

  pub cycle_mod : (a * h + b) % m ≡ (a * (h % m) + b) % m
  cycle_mod = rw apart (mul-add-mod_self_left m _ _)

  pub cycle_div : zero < m → (a * h + b) / m ≡ a * (h / m) + (a * (h % m) + b) / m
  cycle_div p = rw apart (mul-add-div p _ _)
