-- `sheet::row_width`: the test is the layout's. Assumes nothing.
use mathlib.Core.Path.{sym, ap}
use mathlib.Core.Bool.{Bool, cond}
use Prim.Native.Nat.{ℕ}
use native.Mathlib.Omega.{arith}
use Rattle.sheet.proofs.row_width.Goals as goal

pub returns-then-v-z : goal.returns-then-v-z
returns-then-v-z c = record { is = sym (ap (λ (t : Bool). cond {A = ℕ} t 1 2) c.if-v-z.true); some = omega arith; few = omega arith }

pub returns-else-v-z : goal.returns-else-v-z
returns-else-v-z c = record { is = sym (ap (λ (t : Bool). cond {A = ℕ} t 1 2) c.if-v-z.false); some = omega arith; few = omega arith }
