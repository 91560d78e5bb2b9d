-- `buffers::byte_at`: past the end a list has its default.
use mathlib.Core.Path.{sym}
use native.Mathlib.Omega.{arith}
use lib.ListN.{get_or-eq_default}
use Rattle.buffers.proofs.byte_at.Goals as goal

pub overflow_cast-result : goal.overflow_cast-result
overflow_cast-result c = omega (arith, c.shared_slice_known-1.given c.args.k)

pub returns : goal.returns
returns c = sym (get_or-eq_default c.args.s.now 0 c.if-k-s.false)
