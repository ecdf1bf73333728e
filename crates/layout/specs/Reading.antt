-- What a reader makes of bytes.
use Rattle.std.specs.Prelude.{List, [], ◌∷◌, ℕ, ◌+◌, ◌*◌, ◌<◌, length, get_or, take, drop}

-- What a lent slice of bytes holds: each number is below 256.
abbrev pub Bytes : List ℕ → Type 0
Bytes list = (k : ℕ) → k < length list → get_or list k 0 < 256

-- The number that bytes stand for, the lowest first: each counts 256 times as much as the one before it.
unfoldable pub worth : List ℕ → ℕ
worth [] = 0
worth (byte ∷ rest) = byte + 256 * worth rest

-- The number in the n bytes from a place on.
unfoldable pub number_at : List ℕ → ℕ → ℕ → ℕ
number_at bytes at n = worth (take n (drop at bytes))
