-- The numbers that are the boundary's own, and what packs a number. The low byte of an answer is the number of the refusal, from 1 to 255, or 0
-- where there is none.
use Rattle.std.specs.Prelude.{ℕ, ◌*◌}

-- ---- the boundary's own refusals: a state's buffer is not of the state's length

-- of a run's state
abbrev pub bad_state : ℕ
bad_state = 200

-- of a hand state
abbrev pub bad_hand_state : ℕ
bad_hand_state = 201

-- where a sheet of w bytes was written: bits 0-7 the refusal, bits 8-31 the bytes written
abbrev pub written_number : ℕ → ℕ
written_number w = 256 * w
