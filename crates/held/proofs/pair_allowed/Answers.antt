-- `held::pair_allowed`: one row tells, and no two values of one variable are allowed. Assumes nothing.
use mathlib.Core.Path.{sym, ap, ◌∙◌}
use Prim.Native.Nat.{ℕ, ◌+◌}
use lib.ListN.{get_or}
use Rattle.bounded.specs.Mask.{bit}
use Rattle.problem.proofs.HeldTable.{held_row_tells}
use Rattle.held.proofs.Laws.{allowed_apart}
use Rattle.held.proofs.pair_allowed.Goals as goal

pub returns-then-j-i : goal.returns-then-j-i
returns-then-j-i c = allowed_apart c.requires.0 _ _ _ _ c.if-j-i.true

pub returns-else-j-i : goal.returns-else-j-i
returns-else-j-i c =
    let a = c.args in
    let p = c.requires in
    c.has.ensures ∙ ap (λ (x : ℕ). bit (get_or a.t.now (x + a.a) 0) a.b) c.rows_at.ensures.is
    ∙ held_row_tells p.0 a.i a.a a.j p.1.listed (λ e. c.if-j-i.false (sym e)) a.b p.2.listed
