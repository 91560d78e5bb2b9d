-- What the contracts of counts cite.
use Rattle.std.specs.Prelude.{◌≡◌, ℕ, ◌≤◌, List, length, take}

-- so many bytes stand at the front of a list. The second part follows from the first, and spares a caller's `&buf[..n]` a proof file. The
-- definition is that of the kit's library io, which no crate stands on.
abbrev pub IsPrefixLen : ℕ → List ℕ → Type 0
IsPrefixLen n xs = (n ≤ length xs) × (n ≡ length (take n xs))
