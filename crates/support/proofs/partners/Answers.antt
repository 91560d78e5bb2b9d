-- `support::partners`: the union so far has the values with a support among those passed. Assumes nothing.
use mathlib.Core.Path.{◌≡◌, ap, ◌∙◌}
use mathlib.Core.Bool.{cond}
use Prim.Native.Nat.{ℕ, ◌+◌}
use native.Mathlib.Omega.{arith}
use lib.ListN.{get_or}
use borrow.Author.Rules.{rules}
use Rattle.bounded.specs.Mask.{bit}
use Rattle.problem.specs.Held.{rows_at}
use Rattle.support.proofs.Laws.{gather_none, gather_more, gathered}
use Rattle.support.proofs.partners.Goals as goal
use Rattle.support.proofs.partners.Goals.{After-where16-x}

-- the word that a turn takes, at the row's place
taken : (c : After-where16-x) → let a = c.args in let k = c.loop-a.a in
    c.where16-x.result ≡ cond (bit a.domain k) (get_or a.t.now (rows_at a.i a.j + k) 0) 0
taken c =
    let a = c.args in
    let k = c.loop-a.a in
    c.where16-x.ensures ∙ ap (λ (x : ℕ). cond (bit a.domain k) (get_or a.t.now (x + k) 0) 0) c.rows_at-at.ensures.is

pub loop-a-preserved : goal.loop-a-preserved
loop-a-preserved c =
    let p = c.requires in
    let w = c.loop-a in
    (omega arith, gather_more p.0 _ _ _ p.2 p.5 w.a w.x _ (taken (goal.at.loop-a-preserved c).After-where16-x) w.invariant.1)

pub returns : goal.returns
returns c =
    let p = c.requires in
    let w = c.loop-a in
    let e : w.a ≡ 16 = omega arith in
    gathered p.0 _ _ _ p.2 p.5 _ w.x w.a p.1 e w.invariant.1

pub loop-a-init : goal.loop-a-init
loop-a-init c = (search rules, gather_none)
