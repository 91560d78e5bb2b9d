-- `held::row`: met with all values of j, the row is whole. Assumes nothing.
use mathlib.Core.Path.{◌≡◌, sym, ap, ◌∙◌, subst}
use Prim.Native.Nat.{ℕ, ◌≤◌}
use native.Mathlib.Omega.{arith}
use lib.Bits.{bit_and}
use lib.Dec.{ltb}
use Rattle.bounded.specs.Mask.{mask_of}
use Rattle.bounded.proofs.Mask.{below_mask}
use Rattle.problem.specs.Held.{row_word, held}
use Rattle.problem.proofs.HeldTable.{held_narrow}
use Rattle.held.specs.Ready.{Values}
use Rattle.held.proofs.Laws.{all_values, row_all}
use Rattle.held.proofs.row.Goals as goal
use Rattle.held.proofs.row.Goals.{After-below, After-size}

narrow : (c : After-size) → c.size.result ≤ 16
narrow c = omega (arith, c.size.ensures, held_narrow c.requires.0 c.args.j)

-- the set that the row is met with
all : (c : After-below) → c.below.result ≡ mask_of 16 (λ a. ltb a ((held c.args.t.now).size c.args.j))
all c = c.below.ensures ∙ below_mask 16 _ (omega (arith, c.size.ensures, held_narrow c.requires.0 c.args.j)) ∙ ap (λ (z : ℕ). mask_of 16 (λ a. ltb a z)) c.size.ensures

pub row_among-requires : goal.row_among-requires
row_among-requires c = let p = c.requires in (p.0, subst (Values _ _) (sym (all (goal.at.row_among-requires c).After-below)) (all_values p.0 _), p.1, p.2, p.3)

pub returns : goal.returns
returns c =
    let a = c.args in
    c.row_among.ensures ∙ ap (λ (x : ℕ). bit_and x (row_word (held a.t.now) a.i a.j a.a)) (all (goal.at.returns c).After-below) ∙ row_all c.requires.0 a.i a.j a.a

pub below-requires : goal.below-requires
below-requires c = narrow (goal.at.below-requires c).After-size
