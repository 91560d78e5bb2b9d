-- `held::row_among`: the word at the row's place, met with values of j, is the row met with them. Assumes nothing.
use mathlib.Core.Path.{sym, ap, ◌∙◌}
use Prim.Native.Nat.{ℕ, ◌+◌}
use lib.Bits.{bit_and}
use lib.ListN.{get_or}
use Rattle.problem.proofs.HeldTable.{row_met}
use Rattle.held.proofs.row_among.Goals as goal

pub returns : goal.returns
returns c =
    let a = c.args in
    let p = c.requires in
    ap (λ (x : ℕ). bit_and a.set (get_or a.t.now (x + a.a) 0)) c.rows_at.ensures.is
    ∙ row_met p.0 a.i a.a a.j p.2.listed (λ e. p.4 (sym e)) a.set p.1.small p.1.within
