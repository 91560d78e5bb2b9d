-- The place after a record, by its length byte alone.
use Rattle.std.specs.Prelude.{true, false, List, ℕ, ◌+◌, ltb, length}
use Rattle.buffers.specs.Bytes.{byte_at}

-- the place after what stands at p; at the end and where that is cut short, p itself
unfoldable pub place_after : List ℕ → ℕ → ℕ
place_after s p = elim (ltb (p + byte_at s p) (length s)) [ true ↦ p + 1 + byte_at s p | false ↦ p ]
