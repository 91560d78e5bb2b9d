-- `held::size_sum`: the sum so far, at most 16 for each variable. Assumes nothing.
use mathlib.Core.Path.{◌≡◌, sym, ap, ◌∙◌}
use Prim.Native.Nat.{ℕ, ◌≤◌, ◌<◌}
use mathlib.Core.List.{List}
use native.Mathlib.Omega.{arith}
use lib.ListN.{get_or}
use Rattle.bounded.specs.Quantifiers.{sum_to}
use Rattle.bounded.proofs.Loops.{sum_none, sum_more}
use Rattle.problem.specs.Problem.{size_sum}
use Rattle.problem.specs.Held.{held, RowTable}
use Rattle.problem.proofs.HeldTable.{held_few, held_narrow, held_entry, held_most}
use borrow.Author.Rules.{rules}
use Rattle.held.proofs.size_sum.Goals as goal

-- an entry of a variable is its size, of at most 16
size_small : {t : List ℕ} → RowTable t → (i : ℕ) → i < (held t).n → ((held t).size i ≡ get_or t i 0) × (get_or t i 0 ≤ 16)
size_small {t} R i l = let e = held_entry t i (omega (arith, held_few t)) in (e, omega (arith, e, held_narrow R i))

pub loop-i-init : goal.loop-i-init
loop-i-init c = (sym (sum_none _), (omega arith, omega arith))

pub offset_bounds-t-i : goal.offset_bounds-t-i
offset_bounds-t-i c = let few = held_few c.args.t.now in let e = c.variables-n.ensures in search rules

pub bounds-t-i : goal.bounds-t-i
bounds-t-i c = omega (arith, c.requires.located.long, held_few c.args.t.now, c.variables-n.ensures)

pub loop-i-preserved : goal.loop-i-preserved
loop-i-preserved c =
    let l = c.loop-i in
    let x = size_small c.requires l.i (omega (arith, c.variables-n.ensures)) in
    let m = sum_more (held c.args.t.now).size l.i in
    (omega arith, (omega arith, omega arith))

pub returns : goal.returns
unfolding size_sum
returns c =
    let l = c.loop-i in
    let e : l.i ≡ (held c.args.t.now).n = omega (arith, c.variables-n.ensures) in
    let s = l.invariant.0 ∙ ap (λ (k : ℕ). sum_to k (held c.args.t.now).size) e in
    record { is = s; within = omega (arith, s, held_most c.requires) }
