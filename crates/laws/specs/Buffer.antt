-- Lent buffers.
use Rattle.std.specs.Prelude.{◌≡◌, List, ◌++◌, ℕ, ◌≤◌, length, drop}

-- What a call that answers with this refusal number makes of a lent buffer: a refusal leaves it as it was; else it is the
-- list and then what stood beyond.
pub record Lent (number : ℕ) (list before after : List ℕ) : Type 0 where
  pub untouched : 1 ≤ number → after ≡ before
  pub written : number ≡ 0 → after ≡ list ++ drop (length list) before

-- A list written over the start of a buffer.
unfoldable pub overwrite : List ℕ → List ℕ → List ℕ
overwrite entries l = l ++ drop (length l) entries
