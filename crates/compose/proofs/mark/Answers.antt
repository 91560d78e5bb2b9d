-- `compose::mark`: in order, of the problem, and it bars something. Assumes nothing.
use mathlib.Core.Path.{sym, ap, ◌∙◌}
use native.Mathlib.Omega.{arith}
use Rattle.bounded.specs.Quantifiers.{one_if}
use Rattle.problem.specs.Held.{held}
use Rattle.compose.proofs.Writing.{block_low, block_out, block_in}
use Rattle.compose.proofs.mark.Goals as goal

pub returns-then-j-i : goal.returns-then-j-i
returns-then-j-i c = let a = c.args in sym (ap one_if (block_low (held a.t.now) a.x (omega arith)))

pub returns-then-n-j : goal.returns-then-n-j
returns-then-n-j c = let a = c.args in let p = c.requires.1 in sym (ap one_if (block_out (held a.t.now) a.x (omega arith) (omega arith)))

pub returns-then-bars : goal.returns-then-bars
returns-then-bars c =
    let a = c.args in
    let p = c.requires.1 in
    sym (ap one_if (block_in (held a.t.now) a.x (omega arith) (omega arith) ∙ sym c.bars.ensures ∙ c.if-bars.true))

pub returns-else-bars : goal.returns-else-bars
returns-else-bars c =
    let a = c.args in
    let p = c.requires.1 in
    sym (ap one_if (block_in (held a.t.now) a.x (omega arith) (omega arith) ∙ sym c.bars.ensures ∙ c.if-bars.false))
