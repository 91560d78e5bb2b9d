-- `compose::bars`: no setting so far bars any. Assumes nothing.
use mathlib.Core.Path.{◌≡◌, sym}
use Prim.Native.Nat.{◌<◌}
use native.Mathlib.Omega.{arith}
use Rattle.bounded.proofs.Loops.{any_none, any_more, any_hit, any_end}
use Rattle.problem.specs.Held.{held}
use Rattle.problem.proofs.HeldTable.{held_few, held_narrow}
use Rattle.compose.specs.Compose.{row_bars, pair_bars}
use Rattle.compose.proofs.Rows.{row_free, row_bars_lem}
use Rattle.compose.proofs.Writing.{full_is}
use Rattle.compose.proofs.bars.Goals as goal

pub size-z-requires : goal.size-z-requires
size-z-requires c = let p = c.requires in let few = held_few c.args.t.now in (p.table, omega arith)

pub size-requires : goal.size-requires
size-requires c = let p = c.requires in let few = held_few c.args.t.now in (p.table, omega arith)

pub below-full-requires : goal.below-full-requires
below-full-requires c = let e = c.size.ensures in let l = held_narrow c.requires.table c.args.j in omega arith

pub loop-a-init : goal.loop-a-init
loop-a-init c = (omega arith, any_none _)

pub returns-then-row_number-full : goal.returns-then-row_number-full
unfolding pair_bars
returns-then-row_number-full c =
    let a = c.args in
    let P = held a.t.now in
    let l = c.loop-a in
    let r = c.row_number.ensures.is in
    let f = full_is _ _ _ c.below-full.ensures c.size.ensures in
    let n : c.row_number.result ≡ c.below-full.result → ⊥ = c.if-row_number-full.true in
    let e = c.size-z.ensures in
    let k : l.a < P.size a.i = omega arith in
    sym (any_hit (row_bars P a.i a.j) _ l.a k (row_bars_lem P a.i a.j l.a (λ q. n (omega arith))))

pub loop-a-preserved : goal.loop-a-preserved
loop-a-preserved c =
    let a = c.args in
    let l = c.loop-a in
    let r = c.row_number.ensures.is in
    let f = full_is _ _ _ c.below-full.ensures c.size.ensures in
    (omega arith, any_more (row_bars (held a.t.now) a.i a.j) l.a l.invariant.1 (row_free (held a.t.now) a.i a.j l.a (omega arith)))

pub returns : goal.returns
unfolding pair_bars
returns c =
    let a = c.args in
    let l = c.loop-a in
    let e = c.size-z.ensures in
    sym (any_end (row_bars (held a.t.now) a.i a.j) _ l.a (omega arith) l.invariant.1)
