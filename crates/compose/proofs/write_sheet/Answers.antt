-- `compose::write_sheet`: the marks are those of the table. Assumes nothing.
use Prim.Native.Nat.{◌≤◌}
use native.Mathlib.Omega.{arith}
use Rattle.problem.proofs.HeldTable.{held_few}
use Rattle.compose.proofs.Writing.{marked}
use borrow.Author.Rules.{rules}
use Rattle.compose.proofs.write_sheet.Goals as goal

pub invariant_of-d : goal.invariant_of-d
invariant_of-d c =
    let few = held_few c.args.t.now in
    let en = c.variables-n.ensures in
    let k : c.variables-n.result ≤ 32 = omega arith in
    record {
      version = c.requires.1;
      items = en;
      counted = c.mark_blocks-blocks.ensures.1;
      marked = marked c.requires.0 _ _ _ en k (search rules) (search rules) c.mark_blocks-blocks.ensures.0;
    }
