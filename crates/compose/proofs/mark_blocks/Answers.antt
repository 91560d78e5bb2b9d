-- `compose::mark_blocks`: the marks so far, and their count and that of the rest. Assumes nothing.
use mathlib.Core.Path.{◌≡◌, sym, ap, ◌∙◌}
use mathlib.Core.List.{List}
use Prim.Native.Nat.{ℕ, ◌-◌, ◌*◌, ◌<◌}
use native.Mathlib.Omega.{arith}
use lib.ListN.{length, set, length-set}
use Rattle.bounded.specs.Table.{filled}
use Rattle.bounded.proofs.Table.{filled_none, filled_more}
use Rattle.problem.specs.Held.{held}
use Rattle.problem.proofs.HeldTable.{held_few}
use Rattle.compose.specs.Parts.{mark_of}
use Rattle.compose.proofs.Lengths.{count_few}
use Rattle.compose.proofs.Writing.{count_step, written_beyond}
use Rattle.compose.proofs.mark_blocks.Goals as goal

pub loop-x-init : goal.loop-x-init
loop-x-init c = (omega arith, (c.requires.1.1, (sym (filled_none _ _), omega arith)))

pub overflow_mul-x-end : goal.overflow_mul-x-end
overflow_mul-x-end c = let few = held_few c.args.t.now in let e = c.requires.1.0 in omega arith

pub bounds-marks-x : goal.bounds-marks-x
bounds-marks-x c = let few = held_few c.args.t.now in let e = c.requires.1.0 in let l = c.loop-x.invariant.1.0 in omega arith

pub overflow_add-blocks : goal.overflow_add-blocks
overflow_add-blocks c =
    let a = c.args in
    let P = held a.t.now in
    let few = held_few a.t.now in
    let l = c.loop-x in
    let e = c.requires.1.0 in
    let m = c.mark-m.ensures in
    let s = count_step P l.x (omega arith) in
    let f = l.invariant.1.1.1 in
    let k = count_few P 1024 0 in
    omega arith

pub loop-x-preserved : goal.loop-x-preserved
loop-x-preserved c =
    let a = c.args in
    let P = held a.t.now in
    let few = held_few a.t.now in
    let l = c.loop-x in
    let e = c.requires.1.0 in
    let m = c.mark-m.ensures in
    let s = count_step P l.x (omega arith) in
    let g = l.invariant.1.1.1 in
    let b = a.marks.now in
    let k = c.requires.1.1 in
    let h : l.x < length b = omega arith in (
      omega arith,
      (
        simp length-set l.invariant.1.0,
        (
          ap (λ (y : ℕ). set l.marks l.x y) m ∙ ap (λ (d : List ℕ). set d l.x (mark_of P l.x)) l.invariant.1.1.0 ∙ filled_more l.x (mark_of P) b h,
          omega arith,
        ),
      ),
    )

pub returns : goal.returns
returns c =
    let a = c.args in
    let P = held a.t.now in
    let l = c.loop-x in
    let p = c.requires.1.0 in
    let e : l.x ≡ 32 * a.n = omega arith in
    let s = written_beyond P (1024 - l.x) l.x (omega arith) in
    let g = l.invariant.1.1.1 in
    (l.invariant.1.1.0 ∙ ap (λ (k : ℕ). filled k (mark_of P) a.marks.now) e, omega arith)
