-- `bounded::power`: the shift loses no bit. Assumes nothing.
use mathlib.Core.Path.{◌∙◌}
use Prim.Native.Nat.{◌^◌}
use native.Mathlib.Nat.{one-mul}
use native.Mathlib.Omega.{arith}
use lib.Pow.{shl_exact}
use lib.Dec.{lit<}
use Rattle.bounded.proofs.power.Goals as goal

pub returns : goal.returns
returns c = shl_exact 1 c.args.z 64 (lit< tt) (omega arith) ∙ one-mul (2 ^ c.args.z)
