-- `compose::put_block`: the two items, then the rows. Assumes nothing.
use mathlib.Core.Path.{refl}
use mathlib.Core.List.{List, [], ◌∷◌}
use Prim.Native.Nat.{ℕ, ◌+◌, ◌≤◌}
use native.Mathlib.Omega.{arith}
use lib.ListN.{length, length-set}
use Rattle.problem.specs.Held.{held}
use Rattle.problem.proofs.HeldTable.{held_few}
use Rattle.sheet.specs.Sheet.{layout}
use Rattle.compose.specs.Compose.{rows_bytes, block_bytes}
use Rattle.compose.proofs.Writing.{block_parts, pair_put, wrote_both}
use Rattle.compose.proofs.put_block.Goals as goal

-- room for the items and the rows
room : (t out : List ℕ) (v at i j : ℕ) → at + length (block_bytes layout v (held t) i j) ≤ length out
    → at + 2 + length (rows_bytes layout v (held t) i j ((held t).size i) 0) ≤ length out
room t out v at i j h = let e = block_parts layout v (held t) i j in omega arith

pub overflow_cast-out : goal.overflow_cast-out
overflow_cast-out c = let few = held_few c.args.t.now in let p = c.requires.0 in omega arith

pub bounds-out-at : goal.bounds-out-at
bounds-out-at c = let h = room _ _ _ _ _ _ c.requires.1.1 in omega arith

pub overflow_cast-out-2 : goal.overflow_cast-out-2
overflow_cast-out-2 c = let few = held_few c.args.t.now in let p = c.requires.0 in omega arith

pub bounds-out-at-2 : goal.bounds-out-at-2
bounds-out-at-2 c = let h = room _ _ _ _ _ _ c.requires.1.1 in simp length-set (omega arith)

pub put_rows-requires : goal.put_rows-requires
put_rows-requires c = let h = room _ _ _ _ _ _ c.requires.1.1 in (c.requires.0, (c.requires.1.0, simp length-set (omega arith)))

pub returns : goal.returns
unfolding block_bytes
returns c =
    let a = c.args in
    let h = room _ _ _ _ _ _ c.requires.1.1 in
    wrote_both a.out.now a.at (a.i ∷ a.j ∷ []) (rows_bytes layout a.v (held a.t.now) a.i a.j ((held a.t.now).size a.i) 0) _ _ (a.at + 2) _
    (omega arith) (pair_put a.out.now a.at a.i a.j (omega arith)) refl c.put_rows.ensures
