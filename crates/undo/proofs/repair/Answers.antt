-- `undo::repair`: the entries passed are mended, and the others are as they were. Assumes nothing.
use mathlib.Core.Path.{◌≡◌, refl, sym, ap, ◌∙◌, subst}
use Prim.Native.Nat.{ℕ, ◌<◌}
use mathlib.Core.List.{List}
use lib.Dec.{T}
use lib.ListN.{length, get_or, set, length-set}
use Rattle.bounded.proofs.Table.{filled_none, filled_more, filled_end}
use Rattle.problem.specs.PutBack.{plan_of}
use Rattle.problem.specs.Held.{held}
use Rattle.problem.specs.Masks.{state_of}
use Rattle.problem.proofs.HeldTable.{held_few}
use Rattle.undo.specs.Undone.{mended}
use Rattle.undo.proofs.Undo.{filled_here}
use native.Mathlib.Omega.{arith}
use Rattle.undo.proofs.repair.Goals as goal

pub loop-j-init : goal.loop-j-init
loop-j-init c = (omega arith, refl, sym (filled_none _ _))

pub mended-requires : goal.mended-requires
mended-requires c = let l = c.loop-j in let a = c.args in let f : ℕ → ℕ = λ k. mended (held a.view.table.now) (state_of a.view.state.now) a.i a.v k (plan_of a.out.now k) in let lt : l.j < length a.out.now = omega arith in let e : get_or l.out l.j 0 ≡ get_or a.out.now l.j 0 = ap (λ (z : List ℕ). get_or z l.j 0) l.invariant.2 ∙ filled_here l.j f a.out.now lt in let p = c.requires in let few = held_few a.view.table.now in let n = p.1.long in (p.0, (omega arith, λ h d. subst (λ (x : ℕ). T ((state_of a.view.state.now).live l.j x)) (sym e) (p.1.live l.j h d)))

pub loop-j-preserved : goal.loop-j-preserved
loop-j-preserved c = let l = c.loop-j in let a = c.args in let f : ℕ → ℕ = λ k. mended (held a.view.table.now) (state_of a.view.state.now) a.i a.v k (plan_of a.out.now k) in let lt : l.j < length a.out.now = omega arith in let e : get_or l.out l.j 0 ≡ get_or a.out.now l.j 0 = ap (λ (z : List ℕ). get_or z l.j 0) l.invariant.2 ∙ filled_here l.j f a.out.now lt in (omega arith, simp length-set l.invariant.1, ap (λ (x : ℕ). set l.out l.j x) (c.mended.ensures ∙ ap (λ (w : ℕ). mended (held a.view.table.now) (state_of a.view.state.now) a.i a.v l.j w) e) ∙ ap (λ (z : List ℕ). set z l.j (f l.j)) l.invariant.2 ∙ filled_more l.j f a.out.now lt)

pub shape_of-out : goal.shape_of-out
shape_of-out c = c.loop-j.invariant.1

pub returns : goal.returns
returns c = let l = c.loop-j in let n = c.requires.1.long in l.invariant.2 ∙ filled_end _ l.j _ _ n (omega arith) (omega arith)
