-- `waiting::Memory::learn`: the test is taken out of its row, and entered. Assumes nothing.
use Prim.Native.Nat.{◌<◌}
use native.Mathlib.Omega.{arith}
use borrow.Author.Rules.{rules}
use Rattle.waiting.specs.Waiting.{rows}
use Rattle.waiting.proofs.Words.{learned_watched}
use Rattle.waiting.proofs.Memory.learn.Goals as goal
use Rattle.waiting.proofs.Memory.learn.Goals.{After-row_at-row}

-- the row is one
row_lt : (c : After-row_at-row) → c.row_at-row.result < rows
row_lt c = let p = c.requires in let g = p.0 in let i = p.1 in rw c.row_at-row.ensures (omega arith)

pub returns : goal.returns
returns c =
    let p = c.requires in
    learned_watched c.without.result c.row_at-row.ensures (search rules) (row_lt (goal.at.returns c).After-row_at-row) p.2 c.without.ensures c.watch.ensures

pub offset_bounds-self-row : goal.offset_bounds-self-row
offset_bounds-self-row c = let l = row_lt (goal.at.offset_bounds-self-row c).After-row_at-row in search rules

pub bounds-self-row : goal.bounds-self-row
bounds-self-row c = let l = row_lt (goal.at.bounds-self-row c).After-row_at-row in search rules

pub offset_bounds-self-row-2 : goal.offset_bounds-self-row-2
offset_bounds-self-row-2 c = let l = row_lt (goal.at.offset_bounds-self-row-2 c).After-row_at-row in search rules

pub bounds-self-row-2 : goal.bounds-self-row-2
bounds-self-row-2 c = let l = row_lt (goal.at.bounds-self-row-2 c).After-row_at-row in search rules

pub watch-requires : goal.watch-requires
watch-requires c = let l = row_lt (goal.at.watch-requires c).After-row_at-row in search rules
