-- What a buffer holds after a list was written over it.
use Rattle.std.specs.Prelude.{◌≡◌, List, ◌++◌, ℕ, ◌+◌, ◌≤◌, ◌<◌, length, take, drop}
use Rattle.buffers.specs.Bytes.{byte_at}

-- the list xs with the list w written over it at p
unfoldable pub written : List ℕ → ℕ → List ℕ → List ℕ
written xs p w = take p xs ++ (w ++ drop (p + length w) xs)

-- "the trace at its front and its old bytes after that": the buffer d with w at its front
abbrev pub fronted : List ℕ → List ℕ → List ℕ
fronted w d = w ++ drop (length w) d

-- the same byte by byte: of the buffer d, x has the bytes w at its front and the old bytes after them
pub record AtFront (w d x : List ℕ) : Type 0 where
  pub long : length x ≡ length d
  pub front : (k : ℕ) → k < length w → byte_at x k ≡ byte_at w k
  pub rest : (k : ℕ) → length w ≤ k → byte_at x k ≡ byte_at d k
