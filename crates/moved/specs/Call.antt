-- What the exported call that moves a sheet answers, as one number, and what it leaves in the target.
-- A refusal is a number from 1 to 255, and every other answer is a multiple of 256.
use Rattle.std.specs.Prelude.{List, ℕ, Ok, Err}
use Rattle.moved.specs.Move.{Moved, move_number, move_job}
use Rattle.boundary.specs.Numbers.{written_number}

-- the answer and the target
pub record MoveCall : Type 0 where
  pub answer : ℕ
  pub target : List ℕ

-- from what the job answers and the target b as it leaves it
abbrev pub move_crossed : Moved → List ℕ → MoveCall
move_crossed (Ok w) b = record { answer = written_number w; target = b }
move_crossed (Err r) b = record { answer = move_number r; target = b }

-- the sheet s and the target b
unfoldable pub move_call : (s b : List ℕ) → MoveCall
move_call s b = move_crossed (move_job s b).answer (move_job s b).target
