-- What begins in turn: how many of a row have begun.
use Rattle.std.specs.Prelude.{cond, ℕ, zero, suc, ◌+◌, leb}

-- How many of the n numbers f 1, f 2, .. come on or before j.
unfoldable pub begun : (ℕ → ℕ) → ℕ → ℕ → ℕ
begun f zero j = 0
begun f (suc n) j = begun f n j + cond (leb (f (suc n)) j) 1 0
