-- `held::full_domain`. Assumes nothing.
use mathlib.Core.List.{List}
use Prim.Native.Nat.{ℕ, ◌≤◌, ◌<◌}
use mathlib.Core.Path.{sym, ap, ◌∙◌}
use native.Mathlib.Omega.{arith}
use lib.Dec.{ltb}
use lib.ListN.{get_or}
use Rattle.bounded.specs.Mask.{mask_of}
use Rattle.bounded.proofs.Mask.{below_mask}
use Rattle.problem.specs.Held.{RowTable}
use Rattle.problem.proofs.HeldTable.{held_narrow, held_entry}
use Rattle.held.proofs.Full.{full_domain, full_outside}
use Rattle.held.proofs.full_domain.Goals as goal

narrow : (t : List ℕ) → RowTable t → (i : ℕ) → i < 32 → get_or t i 0 ≤ 16
narrow t R i l = omega (arith, held_narrow R i, held_entry t i l)

pub below-requires : goal.below-requires
below-requires c = let q = c.requires in narrow _ q.0 _ q.2

pub returns-then-i-n : goal.returns-then-i-n
returns-then-i-n c =
    let q = c.requires in
    let i = c.args.i in
    c.below.ensures ∙ below_mask 16 _ (narrow _ q.0 i q.2) ∙ ap (λ (z : ℕ). mask_of 16 (λ a. ltb a z)) (sym (held_entry _ i q.2)) ∙ full_domain _ i (omega (arith, q.1, c.if-i-n.true))

pub returns-else-i-n : goal.returns-else-i-n
returns-else-i-n c = let q = c.requires in full_outside _ c.args.i (omega (arith, q.1, c.if-i-n.false))
