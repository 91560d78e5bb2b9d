-- `read_sheet::bad_sizes`: the answer from the start is the answer from here.
use mathlib.Core.Path.{◌≡◌, sym, ap, ◌∙◌}
use Prim.Native.Nat.{ℕ, ◌+◌, ◌-◌}
use Rattle.sheet.specs.Sheet.{layout, bad_sizes}
use Rattle.sheet.proofs.Laws.{sizes_zero, sizes_large, sizes_next, sizes_end}
use Rattle.read_sheet.proofs.Pass.{one_fewer}
use native.Mathlib.Omega.{arith}
use Rattle.read_sheet.proofs.bad_sizes.Goals as goal

pub loop-at-init : goal.loop-at-init
loop-at-init c =
    let a = c.args in
    let e : a.n ≡ a.p + a.n - a.p = omega arith in
    (ap (λ (x : ℕ). bad_sizes layout a.s.now x a.p) e, omega arith)

pub returns-then-z-eq0 : goal.returns-then-z-eq0
returns-then-z-eq0 c =
    let l = c.loop-at in
    sym (l.invariant.0 ∙ sizes_zero layout c.args.s.now _ l.at (omega arith) (omega arith))

pub returns-then-z-gt16 : goal.returns-then-z-gt16
returns-then-z-gt16 c =
    let l = c.loop-at in
    sym (l.invariant.0 ∙ sizes_large layout c.args.s.now _ l.at (omega arith) (omega arith))

pub loop-at-preserved : goal.loop-at-preserved
loop-at-preserved c =
    let l = c.loop-at in
    let a = c.args in
    let h : c.byte-z.result ≡ 0 → ⊥ = c.if-z-eq0.false in (
      l.invariant.0 ∙ sizes_next layout a.s.now _ l.at (omega arith) (omega arith) (omega arith) ∙ ap (λ (x : ℕ). bad_sizes layout a.s.now x (l.at + 1)) (one_fewer (a.p + a.n) l.at),
      omega arith,
    )

pub returns : goal.returns
returns c =
    let l = c.loop-at in
    let a = c.args in
    let e : a.p + a.n - l.at ≡ 0 = omega arith in
    sym (l.invariant.0 ∙ ap (λ (x : ℕ). bad_sizes layout a.s.now x l.at) e ∙ sizes_end layout _ _)
