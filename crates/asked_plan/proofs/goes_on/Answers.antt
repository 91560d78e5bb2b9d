-- `asked_plan::goes_on`: the known plan tells, or a question of the state with the choice made. Assumes nothing.
use borrow.Author.Rules.{rules}
use Rattle.bounded.proofs.Mask.{one_shifted}
use Rattle.held.proofs.Laws.{live_value}
use Rattle.asked_plan.proofs.Questions.{next_ready, next_drawn, none_goes_on, found_goes_on}
use Rattle.asked_plan.proofs.goes_on.Goals as goal

pub ask-requires : goal.ask-requires
ask-requires c =
    let p = c.requires in
    let n = c.choose-next.ensures in
    (next_ready p.0 _ _ p.1 n, next_drawn p.0 _ _ p.1 n p.2)

pub overflow_shl-known : goal.overflow_shl-known
overflow_shl-known c = let l = live_value c.requires.0 _ _ c.requires.1 in search rules

pub returns-in_err-known : goal.returns-in_err-known
returns-in_err-known c = let p = c.requires in rw c.from_residual.ensures (none_goes_on p.0 _ _ p.1 c.choose-next.ensures p.3 c.ask.ensures c.in_err-known.was)

pub returns : goal.returns
returns c = let p = c.requires in rw (one_shifted 16 _ (live_value p.0 _ _ p.1).value) (found_goes_on p.0 _ _ p.1 c.choose-next.ensures c.ask.ensures c.in_ok-known.was)
