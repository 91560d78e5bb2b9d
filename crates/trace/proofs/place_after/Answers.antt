-- `trace::place_after`. Assumes nothing.
use mathlib.Core.Path.{sym}
use native.Mathlib.Omega.{arith}
use Rattle.trace.proofs.Place.{after_byte, after_end, after_cut}
use Rattle.trace.proofs.place_after.Goals as goal

pub returns-then-s-at : goal.returns-then-s-at
returns-then-s-at c = sym (after_end _ _ (omega arith))

pub returns-then-n-s : goal.returns-then-n-s
returns-then-n-s c = after_byte _ _ _ c.byte_at-n.ensures (omega arith)

pub returns : goal.returns
returns c = sym (after_cut _ _ (omega arith))
