-- `putting_back::copy`: the result so far is the plan's front before its own rest. Assumes nothing.
use mathlib.Core.Path.{refl, sym, ◌∙◌}
use lib.ListN.{length, length-set}
use Rattle.bounded.proofs.Table.{filled_none, filled_more, filled_end}
use Rattle.problem.specs.PutBack.{plan_of}
use Rattle.undo.proofs.Undo.{tab_back}
use native.Mathlib.Omega.{arith}
use Rattle.putting_back.proofs.copy.Goals as goal

pub loop-i-init : goal.loop-i-init
loop-i-init c = (omega arith, refl, sym (filled_none _ _))

pub loop-i-preserved : goal.loop-i-preserved
loop-i-preserved c = let l = c.loop-i in let a = c.args in (omega arith, simp length-set l.invariant.1, rw l.invariant.2 (filled_more l.i (plan_of a.plan.now) a.out.now (omega arith)))

pub shape_of-out : goal.shape_of-out
shape_of-out c = c.loop-i.invariant.1

pub returns : goal.returns
returns c = let l = c.loop-i in let a = c.args in l.invariant.2 ∙ filled_end (length a.plan.now) l.i (plan_of a.plan.now) a.out.now (sym c.requires) (omega arith) (omega arith) ∙ sym (tab_back (length a.plan.now) a.plan.now refl)
