use Prim.Native.Nat.{◌≤◌}
use mathlib.Core.Path.{◌≡◌}
use lib.ListN.{length, take}
use Rattle.buffers.specs.Bytes.{words_bytes}
use Rattle.buffers.specs.Written.{written}
use Rattle.boundary.proofs.put_state.Given as goal

abbrev pub invariant-loop-i : goal.invariant-loop-i
invariant-loop-i l = (l.i ≤ 32) × (length l.b ≡ 68) × (l.b ≡ written l.initial.b 4 (words_bytes (take l.i l.m.domains)))
