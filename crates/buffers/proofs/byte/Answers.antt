-- `buffers::byte`: a byte is below 256.
use mathlib.Core.Path.{refl}
use native.Mathlib.Omega.{arith}
use Rattle.buffers.proofs.byte.Goals as goal

pub overflow_cast-result : goal.overflow_cast-result
overflow_cast-result c = omega (arith, c.shared_slice_known-1.given c.args.k)

pub returns : goal.returns
returns c = record { is = refl; below = omega (arith, c.shared_slice_known-1.given c.args.k) }
