-- `held::variables`: a search for the first size that is 0. Assumes nothing.
use mathlib.Core.Path.{sym, ◌∙◌}
use native.Mathlib.Omega.{arith}
use borrow.Author.Tests.{eq-eqb, ne_eqb}
use Rattle.bounded.proofs.Loops.{lowest_none, lowest_more, lowest_hit, lowest_end}
use Rattle.problem.proofs.HeldTable.{held_entry, held_lowest}
use borrow.Author.Rules.{rules}
use Rattle.held.proofs.variables.Goals as goal

pub loop-i-init : goal.loop-i-init
loop-i-init c = (search rules, lowest_none _)

pub returns-then-t-i-eq0 : goal.returns-then-t-i-eq0
returns-then-t-i-eq0 c =
    let l = c.loop-i-test.true in
    sym (held_lowest _ ∙ lowest_hit _ 32 _ l c.loop-i.invariant.1 (eq-eqb _ 0 (held_entry _ _ l ∙ c.if-t-i-eq0.true)))

pub loop-i-preserved : goal.loop-i-preserved
loop-i-preserved c =
    let l = c.loop-i-test.true in
    (omega arith, lowest_more _ _ c.loop-i.invariant.1 (ne_eqb _ 0 (λ e. c.if-t-i-eq0.false (sym (held_entry c.args.t.now _ l) ∙ e))))

pub returns : goal.returns
returns c = sym (held_lowest _ ∙ lowest_end _ 32 _ (omega arith) (omega arith) c.loop-i.invariant.1)
