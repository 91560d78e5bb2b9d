-- docs/FORMAT.md, "The place of a pair": one fixed place for every two items, from a list of 1,024 entries.
use Rattle.std.specs.Prelude.{cond, List, ℕ, ◌+◌, ◌-◌, ◌*◌, ◌/◌, ◌%◌, ltb}
use Rattle.bounded.specs.Table.{tab}

-- "For i < j the entry is j × (j − 1) / 2 + i, the same for the pair turned round, and 65,535 where i equals j."
unfoldable pub place_of : (i j : ℕ) → ℕ
place_of i j = cond (ltb i j) (j * (j - 1) / 2 + i) (cond (ltb j i) (i * (i - 1) / 2 + j) 65535)

-- the list of places: "1,024 entries, the one for i and j at 32 × i + j"
unfoldable pub place_list : List ℕ
place_list = tab 1024 (λ k. place_of (k / 32) (k % 32))
