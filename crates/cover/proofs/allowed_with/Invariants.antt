use mathlib.Core.Path.{◌≡◌}
use Prim.Native.Nat.{ℕ, ◌+◌, ◌≤◌}
use lib.Bits.{bit_and}
use lib.Dec.{eqb}
use lib.ListN.{get_or}
use Rattle.bounded.specs.Mask.{mask_of}
use Rattle.problem.specs.Held.{rows_at}
use Rattle.cover.proofs.allowed_with.Given as goal

abbrev pub invariant-loop-u : goal.invariant-loop-u
invariant-loop-u l = (l.u ≤ 16) × (l.word ≡ mask_of l.u (λ (k : ℕ). eqb (bit_and l.x (get_or l.t (rows_at l.i l.l + k) 0)) l.x))
