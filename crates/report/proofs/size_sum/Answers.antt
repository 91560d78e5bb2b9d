-- `report::size_sum`: the sum so far, at most 16 for each item. Assumes nothing.
use mathlib.Core.Path.{◌≡◌, sym, ap, ◌∙◌}
use Prim.Native.Nat.{ℕ}
use Rattle.bounded.specs.Quantifiers.{sum_to}
use Rattle.bounded.proofs.Loops.{sum_none, sum_more}
use Rattle.problem.specs.Problem.{size_sum}
use Rattle.sheet.specs.Sheet.{layout, variables_of}
use Rattle.sheet.specs.Relation.{size_of, problem_of}
use Rattle.sheet.proofs.Accepted.{facts, size_in}
use borrow.Author.Rules.{rules}
use native.Mathlib.Omega.{arith}
use Rattle.report.proofs.size_sum.Goals as goal

pub byte-n-requires : goal.byte-n-requires
byte-n-requires c = let f = facts layout _ c.requires in omega arith

pub loop-i-init : goal.loop-i-init
loop-i-init c = (sym (sum_none _), (omega arith, omega arith))

pub byte-sum-requires : goal.byte-sum-requires
byte-sum-requires c = let f = (facts layout _ c.requires).front.room in omega arith

pub overflow_add-sum : goal.overflow_add-sum
overflow_add-sum c =
    let s = c.args.s.now in
    let f = (facts layout s c.requires).front in
    let z = f.sizes c.loop-i.i (omega arith) in
    let q = f.few in
    search rules

pub loop-i-preserved : goal.loop-i-preserved
loop-i-preserved c =
    let l = c.loop-i in
    let m = sum_more (size_of layout c.args.s.now) l.i in
    let s = c.args.s.now in
    let f = (facts layout s c.requires).front.sizes l.i (omega arith) in
    let e = c.byte-sum.ensures.is in
    let z = size_in layout s l.i (omega arith) in
    (omega arith, (omega arith, omega arith))

pub returns : goal.returns
unfolding size_sum problem_of
returns c =
    let l = c.loop-i in
    let s = c.args.s.now in
    let f = (facts layout s c.requires).front.few in
    let e : l.i ≡ variables_of s = omega arith in
    record { is = l.invariant.0 ∙ ap (λ (k : ℕ). sum_to k (size_of layout s)) e; below = omega arith }
