use mathlib.Core.Path.{◌≡◌}
use Prim.Native.Nat.{◌≤◌}
use mathlib.Core.Bool.{true}
use lib.ListN.{length}
use Rattle.bounded.specs.Quantifiers.{all_below}
use Rattle.problem.specs.PutBack.{plan_of}
use Rattle.problem.specs.Masks.{state_of}
use Rattle.putting_back.specs.Plan.{entry_fits}
use Rattle.putting_back.proofs.entries_fit.Given as goal

abbrev pub invariant-loop-i : goal.invariant-loop-i
invariant-loop-i l = (l.i ≤ length l.plan) × (all_below l.i (λ k. entry_fits (state_of l.m) k (plan_of l.plan k)) ≡ true)
