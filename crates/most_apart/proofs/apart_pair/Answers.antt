-- `most_apart::apart_pair`: the word so far has the values passed that are allowed at both. Assumes nothing.
use mathlib.Core.Path.{◌≡◌}
use native.Mathlib.Omega.{arith}
use borrow.Author.Tests.{eqb-true}
use Rattle.bounded.proofs.Mask.{one_shifted}
use Rattle.most_apart.proofs.Laws.{diagonal_more, diagonal_end}
use Rattle.most_apart.proofs.apart_pair.Goals as goal

pub loop-a-preserved : goal.loop-a-preserved
loop-a-preserved c =
    let w = c.loop-a in
    let l = c.loop-a-test.true in
    (omega arith, diagonal_more c.rows_at-at.ensures.is (one_shifted 16 w.a l) w.invariant.1)

pub returns : goal.returns
returns c =
    let p = c.requires in
    let w = c.loop-a in
    let e : w.a ≡ 16 = omega (arith, w.invariant.0, c.loop-a-test.false) in
    record { apart = λ h. diagonal_end p.0 p.1 p.2 p.3 p.5 e w.invariant.1 (eqb-true _ 0 h) }
