-- `colour::edge_rows`: the rows so far. Assumes nothing.
use mathlib.Core.Path.{sym, ap, ◌∙◌}
use mathlib.Core.List.{List}
use Prim.Native.Nat.{ℕ, ◌-◌, ◌^◌}
use native.Mathlib.Omega.{arith}
use lib.ListN.{set, length-replicate}
use Rattle.bounded.specs.Mask.{without}
use Rattle.bounded.proofs.Table.{filled_none, filled_more, filled_end}
use Rattle.colour.specs.Parts.{edge_rows}
use Rattle.colour.proofs.edge_rows.Goals as goal

pub loop-a-preserved : goal.loop-a-preserved
loop-a-preserved c =
    let l = c.loop-a in
    let k = c.args.k in
    let p = c.below-all.ensures in (
      omega arith,
      l.invariant.1,
      ap (λ (v : ℕ). set l.rows l.a v) (c.without.ensures ∙ ap (λ (y : ℕ). without 16 y l.a) p)
          ∙ ap (λ (x : List ℕ). set x l.a (without 16 (2 ^ k - 1) l.a)) l.invariant.2
          ∙ filled_more l.a _ _ (omega arith),
    )

pub loop-a-init : goal.loop-a-init
unfolding edge_rows
loop-a-init c = (omega arith, length-replicate {A = ℕ} 16 0, sym (filled_none _ _))

pub returns : goal.returns
unfolding edge_rows
returns c = let l = c.loop-a in l.invariant.2 ∙ filled_end 16 l.a _ _ l.invariant.1 (omega arith) l.invariant.0
