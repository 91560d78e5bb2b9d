-- Numbers in a list of bytes. "Numbers are big-endian."
use Rattle.std.specs.Prelude.{◌≡◌, List, [], ◌∷◌, ◌++◌, ℕ, zero, suc, ◌+◌, ◌*◌, ◌/◌, ◌%◌, ◌^◌, ◌<◌, get_or}

-- the byte at k, or 0 past the end
abbrev pub byte_at : List ℕ → ℕ → ℕ
byte_at s k = get_or s k 0

-- the number of w bytes at p, the first byte worth the most
abbrev pub number_at : List ℕ → ℕ → ℕ → ℕ
number_at s zero p = 0
number_at s (suc w) p = byte_at s p * 256 ^ w + number_at s w (p + 1)

-- the w bytes of x, the first worth the most; `number_at` reads them back
abbrev pub number_bytes : ℕ → ℕ → List ℕ
number_bytes zero x = []
number_bytes (suc w) x = x / 256 ^ w % 256 ∷ number_bytes w x

-- the 2 bytes of each number of a list
unfoldable pub words_bytes : List ℕ → List ℕ
words_bytes [] = []
words_bytes (x ∷ l) = number_bytes 2 x ++ words_bytes l

-- each number of a list is a byte's: so it is of every list that is lent
abbrev pub AreBytes : List ℕ → Type 0
AreBytes s = (k : ℕ) → byte_at s k < 256

-- r is the number x, and is below lim
pub record Is (x lim r : ℕ) : Type 0 where
  pub is : r ≡ x
  pub below : r < lim
