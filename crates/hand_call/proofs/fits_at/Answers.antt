-- `hand_call::fits_at`. Assumes nothing.
use mathlib.Core.Path.{sym, ap, ◌∙◌}
use mathlib.Core.Bool.{Bool, ◌&&◌}
use Prim.Native.Nat.{ℕ}
use lib.Dec.{ltb}
use lib.ListN.{get_or}
use Rattle.bounded.specs.Quantifiers.{imp, all_below}
use Rattle.bounded.specs.Mask.{bit}
use Rattle.problem.specs.Held.{held}
use Rattle.problem.proofs.HeldTable.{held_narrow}
use Rattle.hand_call.proofs.Laws.{fits_active, fits_idle}
use native.Mathlib.Omega.{arith}
use Rattle.hand_call.proofs.fits_at.Goals as goal

pub below-requires : goal.below-requires
below-requires c = omega (arith, c.size.ensures, held_narrow c.requires.0 c.args.i)

pub returns-then-has : goal.returns-then-has
returns-then-has c =
    let a = c.args in
    let p = c.requires in
    let e = c.below.ensures ∙ ap (λ (z : ℕ). all_below 16 (λ v. imp (bit (get_or a.m.now.domains a.i 0) v) (ltb v z))) c.size.ensures in
    let P = held a.t.now in
    ap (λ (n : ℕ). ltb a.i n && c.below.result) p.2
    ∙ ap (λ (b : Bool). ltb a.i P.n && b) e
    ∙ fits_active P a.m.now a.i (sym c.has.ensures ∙ c.if-has.true)

pub returns-else-has : goal.returns-else-has
returns-else-has c =
    let a = c.args in
    let p = c.requires in
    fits_idle _ a.m.now a.i (p.1.domain_lt _ p.3) (sym c.has.ensures ∙ c.if-has.false)
