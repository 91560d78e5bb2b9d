-- `waiting_search::next_step`: a loop over the kinds; what waits stays right. Assumes nothing.
use mathlib.Core.Path.{◌≡◌, sym, ap, ◌∙◌}
use Prim.Native.Nat.{◌+◌}
use native.Mathlib.Omega.{arith}
use Rattle.problem.specs.Run.{next_of_kind}
use Rattle.problem.specs.Held.{held}
use Rattle.problem.specs.Masks.{state_of}
use Rattle.problem.proofs.Run.{next_open, next_shut}
use Rattle.problem.proofs.Search.{nothing_is, first_more, first_hit, first_end}
use Rattle.waiting_search.proofs.InOrder.{kinds_none, kinds_listed}
use Rattle.waiting_search.proofs.next_step.Goals as goal
use Rattle.waiting_search.proofs.next_step.Goals.{After-next_of_kind-found}

pub returns-then-not-lasts : goal.returns-then-not-lasts
returns-then-not-lasts c = record { is = sym (next_shut _ _ (sym c.none_empty-lasts.ensures ∙ c.if-not-lasts.true)); waits = c.requires.1 }

pub loop-kind-init : goal.loop-kind-init
loop-kind-init c = (omega arith, kinds_none _ _, c.requires.1)

pub next_of_kind-found-requires : goal.next_of_kind-found-requires
next_of_kind-found-requires c = let q = c.requires in (q.0, c.loop-kind.invariant.2, sym c.none_empty-lasts.ensures ∙ c.if-not-lasts.false)

-- what was found is of the kind of the turn's number
of_turn : (c : After-next_of_kind-found) → next_of_kind (held c.args.view.table.now) (state_of c.args.view.state.now) (c.loop-kind.kind-index + 1) ≡ c.next_of_kind-found.result
of_turn c = ap (next_of_kind (held c.args.view.table.now) (state_of c.args.view.state.now)) (sym (kinds_listed c.loop-kind.kind-index (omega arith))) ∙ sym c.next_of_kind-found.ensures.is

pub returns-then-is_some : goal.returns-then-is_some
returns-then-is_some c =
    let e = of_turn (goal.at.returns-then-is_some c).After-next_of_kind-found in
    record {
      is = sym (next_open _ _ (sym c.none_empty-lasts.ensures ∙ c.if-not-lasts.false) ∙ first_hit _ 6 _ _ (omega arith) c.loop-kind.invariant.1 e (sym c.is_some.ensures ∙ c.if-is_some.true));
      waits = c.next_of_kind-found.ensures.waits;
    }

pub loop-kind-preserved : goal.loop-kind-preserved
loop-kind-preserved c =
    let e = of_turn (goal.at.loop-kind-preserved c).After-next_of_kind-found in
    (omega arith, first_more _ _ c.loop-kind.invariant.1 (e ∙ nothing_is _ (sym c.is_some.ensures ∙ c.if-is_some.false)), c.next_of_kind-found.ensures.waits)

pub returns : goal.returns
returns c = record { is = sym (next_open _ _ (sym c.none_empty-lasts.ensures ∙ c.if-not-lasts.false) ∙ first_end _ 6 _ (omega arith) c.loop-kind.invariant.1); waits = c.loop-kind.invariant.2 }
