-- `waiting_run::end_of`. Assumes nothing.
use mathlib.Core.Path.{sym, ap, ◌∙◌}
use mathlib.Core.Bool.{not}
use borrow.Author.Tests.{eq-eqb, ne_eqb}
use Rattle.problem.proofs.Run.{end_impossible, end_rest, end_solved}
use Rattle.waiting_run.proofs.States.{some_active}
use Rattle.waiting_run.proofs.end_of.Goals as goal

pub returns-then-not-none_empty : goal.returns-then-not-none_empty
returns-then-not-none_empty c = sym (end_impossible _ _ (sym c.none_empty.ensures ∙ c.if-not-none_empty.true))

pub returns-then-view-eq0 : goal.returns-then-view-eq0
returns-then-view-eq0 c =
    sym (end_solved _ _ (sym c.none_empty.ensures ∙ c.if-not-none_empty.false) (sym (some_active c.args.view.ready) ∙ ap not (eq-eqb _ 0 c.if-view-eq0.true)))

pub returns : goal.returns
returns c =
    sym (end_rest _ _ (sym c.none_empty.ensures ∙ c.if-not-none_empty.false) (sym (some_active c.args.view.ready) ∙ ap not (ne_eqb _ 0 c.if-view-eq0.false)))
