-- `compose::put_sizes`: the sizes so far are written. Assumes nothing.
use mathlib.Core.Path.{refl, sym, ap, ◌∙◌}
use mathlib.Core.List.{List}
use Prim.Native.Nat.{ℕ, ◌+◌, ◌<◌}
use native.Mathlib.Omega.{arith}
use lib.ListN.{length, set, length-set}
use Rattle.problem.specs.Held.{held}
use Rattle.problem.proofs.HeldTable.{held_few, held_narrow}
use Rattle.buffers.proofs.Written.{tab_none, tab_next}
use Rattle.compose.proofs.put_sizes.Goals as goal

pub loop-i-init : goal.loop-i-init
loop-i-init c = (omega arith, (refl, sym (tab_none _ _ _)))

pub size-requires : goal.size-requires
size-requires c = let p = c.requires in let few = held_few c.args.t.now in (p.0, omega arith)

pub overflow_cast-out : goal.overflow_cast-out
overflow_cast-out c = let e = c.size.ensures in let l = held_narrow c.requires.0 c.loop-i.i in omega arith

pub loop-i-preserved : goal.loop-i-preserved
loop-i-preserved c =
    let l = c.loop-i in
    let a = c.args in
    let f = (held a.t.now).size in
    let b = a.out.now in
    let h : 8 + l.i < length b = omega arith in (
      omega arith,
      (
        simp length-set l.invariant.1.0,
        ap (λ (x : ℕ). set l.out (8 + l.i) x) c.size.ensures ∙ ap (λ (d : List ℕ). set d (8 + l.i) (f l.i)) l.invariant.1.1 ∙ tab_next b 8 f l.i h,
      ),
    )
