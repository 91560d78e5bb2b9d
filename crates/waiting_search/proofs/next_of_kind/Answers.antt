-- `waiting_search::next_of_kind`: a loop over the variables. Assumes nothing.
use mathlib.Core.Path.{sym, ◌∙◌}
use native.Mathlib.Omega.{arith}
use borrow.Author.Rules.{rules}
use Rattle.problem.proofs.Search.{nothing_is, first_none, first_more, first_hit, first_end}
use Rattle.search_order.proofs.Lowest.{lowest_from}
use Rattle.waiting_search.proofs.next_of_kind.Goals as goal

pub loop-i-init : goal.loop-i-init
loop-i-init c = (search rules, first_none _, c.requires.1)

pub step_from-found-requires : goal.step_from-found-requires
step_from-found-requires c = let p = c.requires in (p.0, c.loop-i.invariant.2, p.2, omega arith)

pub returns-then-is_some : goal.returns-then-is_some
returns-then-is_some c =
    let found = c.step_from-found.ensures in
    record { is = sym (sym (lowest_from c.args.view.ready _) ∙ first_hit _ 32 _ _ (omega arith) c.loop-i.invariant.1 (sym found.is) (sym c.is_some.ensures ∙ c.if-is_some.true)); waits = found.waits }

pub loop-i-preserved : goal.loop-i-preserved
loop-i-preserved c =
    let found = c.step_from-found.ensures in
    (omega arith, first_more _ _ c.loop-i.invariant.1 (sym found.is ∙ nothing_is _ (sym c.is_some.ensures ∙ c.if-is_some.false)), found.waits)

pub returns : goal.returns
returns c = let w = c.loop-i.invariant in record { is = sym (sym (lowest_from c.args.view.ready _) ∙ first_end _ 32 _ (omega arith) w.1); waits = w.2 }
