-- `table::turn`: the rows so far are turned. Assumes nothing.
use mathlib.Core.Path.{sym, ap, ◌∙◌}
use mathlib.Core.List.{List}
use Prim.Native.Nat.{ℕ}
use native.Mathlib.Omega.{arith}
use lib.ListN.{set}
use borrow.Author.Rules.{rules}
use Rattle.bounded.proofs.Table.{filled_none, filled_more, filled_end}
use Rattle.table.specs.Parts.{transposed_row, transposed_rows}
use Rattle.table.proofs.turn.Goals as goal

pub loop-b-preserved : goal.loop-b-preserved
loop-b-preserved c =
    let l = c.loop-b in
    let r = c.args.rows.now in (
      omega arith,
      l.invariant.1,
      ap (λ (v : ℕ). set l.turned l.b v) c.column.ensures ∙ ap (λ (x : List ℕ). set x l.b (transposed_row r l.b)) l.invariant.2 ∙ filled_more l.b _ _ (omega arith),
    )

pub loop-b-init : goal.loop-b-init
unfolding transposed_rows
loop-b-init c = (omega arith, c.requires, sym (filled_none _ _))

pub column-requires : goal.column-requires
unfolding transposed_rows
column-requires c = search rules

pub offset_bounds-turned-b : goal.offset_bounds-turned-b
unfolding transposed_rows
offset_bounds-turned-b c = search rules

pub bounds-turned-b : goal.bounds-turned-b
unfolding transposed_rows
bounds-turned-b c = search rules

pub returns : goal.returns
unfolding transposed_rows
returns c = let l = c.loop-b in l.invariant.2 ∙ filled_end 16 l.b _ _ l.invariant.1 (omega arith) l.invariant.0
