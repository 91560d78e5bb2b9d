-- `waiting_variable::substitution_variable`: the lowest goal left, or a failure that is entered. Assumes nothing.
use mathlib.Core.Path.{◌≡◌, sym, ◌∙◌}
use native.Mathlib.Omega.{arith}
use borrow.Author.Rules.{rules}
use Rattle.problem.specs.Held.{held}
use Rattle.problem.specs.Masks.{state_of}
use Rattle.problem.proofs.Search.{nothing_is}
use Rattle.waiting.proofs.Waiting.{waits_learned}
use Rattle.search_order.specs.Lowest.{step_from}
use Rattle.waiting_variable.proofs.Trying.{goals_first, goals_rest, goals_none}
use Rattle.waiting_variable.proofs.substitution_variable.Goals as goal
use Rattle.waiting_variable.proofs.substitution_variable.Goals.{After-lowest_substitution-found}

pub returns-then-has-view : goal.returns-then-has-view
returns-then-has-view c =
    let p = c.requires in
    record { is = sym (goals_none c.args.view.ready _ p.1 p.0 c.pending_of.result c.has.result c.pending_of.ensures c.has.ensures c.if-has-view.true); waits = p.0 }

-- what the goals left say
lowest : (c : After-lowest_substitution-found) → let a = c.args in
    c.lowest_substitution-found.result ≡ step_from (held a.view.table.now) (state_of a.view.state.now) 5 a.i
lowest c = let p = c.requires in c.lowest_substitution-found.ensures ∙ goals_first c.args.view.ready _ p.1 c.substitution_rests-rests.ensures

pub returns-then-is_some : goal.returns-then-is_some
returns-then-is_some c = record { is = lowest (goal.at.returns-then-is_some c).After-lowest_substitution-found; waits = c.requires.0 }

pub returns : goal.returns
returns c =
    let p = c.requires in
    let none = sym (lowest (goal.at.returns c).After-lowest_substitution-found) ∙ nothing_is _ (sym c.is_some.ensures ∙ c.if-is_some.false) in
    record { is = sym none; waits = waits_learned p.0 4 _ 0 (omega arith) p.1 (omega arith) c.learn.ensures (goals_rest c.args.view.ready _ p.1 c.substitution_rests-rests.ensures none) (search rules) }

pub pending_of-requires : goal.pending_of-requires
pending_of-requires c = let p = c.requires in (omega arith, p.1)

pub learn-requires : goal.learn-requires
learn-requires c = let p = c.requires in (omega arith, p.1, omega arith)
