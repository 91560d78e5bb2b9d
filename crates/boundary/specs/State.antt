-- A state as bytes, as it crosses to C and Rust: the active variables in 4 bytes, then 32 domains in 2 bytes each, big-endian.
use Rattle.std.specs.Prelude.{List, ◌++◌, ℕ, ◌+◌, ◌*◌}
use Rattle.bounded.specs.Table.{tab}
use Rattle.problem.specs.declared.Masks.{Masks}
use Rattle.buffers.specs.Bytes.{number_at, number_bytes, words_bytes}

-- its bytes: 4 + 2 * 32
abbrev pub state_length : ℕ
state_length = 68

unfoldable pub masks_bytes : Masks → List ℕ
masks_bytes m = number_bytes 4 m.active ++ words_bytes m.domains

-- the state that bytes say
unfoldable pub masks_in : List ℕ → Masks
masks_in b = record { active = number_at b 4 0; domains = tab 32 (λ i. number_at b 2 (4 + 2 * i)) }
