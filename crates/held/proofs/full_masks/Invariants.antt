use Prim.Native.Nat.{◌≤◌}
use mathlib.Core.Path.{◌≡◌}
use Rattle.bounded.specs.Mask.{mask_of}
use Rattle.bounded.specs.Table.{filled}
use Rattle.problem.specs.Problem.{full}
use Rattle.problem.specs.Held.{held}
use Rattle.held.proofs.full_masks.Given as goal

abbrev pub invariant-loop-i : goal.invariant-loop-i
invariant-loop-i l = (l.i ≤ 32) × (l.m.active ≡ l.initial.m.active) × (l.m.domains ≡ filled l.i (λ k. mask_of 16 ((full (held l.t)).live k)) l.initial.m.domains)
