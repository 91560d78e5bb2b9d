-- `compose::put_row`: a width is 1 or 2. Assumes nothing.
use mathlib.Core.Path.{ap}
use Prim.Native.Nat.{ℕ, ◌^◌}
use native.Mathlib.Omega.{arith}
use Rattle.compose.proofs.Writing.{put_byte}
use Rattle.compose.proofs.put_row.Goals as goal

pub returns-then-w-eq1 : goal.returns-then-w-eq1
returns-then-w-eq1 c = let a = c.args in let e = ap (λ (k : ℕ). 256 ^ k) c.if-w-eq1.true in put_byte a.out.now a.at a.w a.x c.if-w-eq1.true (omega arith) (omega arith)
