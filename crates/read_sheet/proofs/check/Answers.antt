-- `read_sheet::check`: the answer from the start is the answer from here. Assumes nothing.
use mathlib.Core.Path.{◌≡◌, refl, sym, ap, ◌∙◌}
use Prim.Native.Nat.{ℕ, ◌-◌}
use native.Mathlib.Omega.{arith}
use Rattle.std.proofs.lemmas.Result.{err_from_is_err_and}
use Rattle.sheet.specs.Sheet.{layout, blocks_from}
use Rattle.sheet.proofs.Laws.{whole, blocks_fault, blocks_next}
use Rattle.read_sheet.proofs.Stores.{clear_local}
use Rattle.read_sheet.proofs.Pass.{all_left, one_fewer}
use Rattle.read_sheet.proofs.check.Goals as goal

pub loop-init : goal.loop-init
loop-init c = let f = c.requires.room in rw (all_left, c.byte-at.ensures.is, c.word-end.ensures.is) (refl, omega arith)

pub block_at-requires : goal.block_at-requires
block_at-requires c = (c.requires, c.loop.invariant.1, clear_local)

pub returns-in_err-next : goal.returns-in_err-next
returns-in_err-next c =
    let l = c.loop in
    let p = err_from_is_err_and c.from_residual.result c.from_residual.ensures.1 in
    rw (p.1, p.2) (sym (l.invariant.0 ∙ blocks_fault layout _ _ _ _ (omega (arith, c.loop-test.true)) _ (sym c.block_at.ensures.answer ∙ c.in_err-next.was)))

pub loop-preserved : goal.loop-preserved
loop-preserved c =
    let l = c.loop in
    let e = sym c.block_at.ensures.answer ∙ c.in_ok-next.was in
    let m = (whole layout _ _ _ _ _ e).within in
    let n = (whole layout _ _ _ _ _ e).next in
    (l.invariant.0 ∙ blocks_next layout _ _ _ _ (omega (arith, c.loop-test.true)) _ _ e ∙ ap (λ (x : ℕ). blocks_from layout c.args.s.now x c.in_ok-next.next.least c.in_ok-next.next.at) (one_fewer c.word-end.result l.counter), omega arith)

pub returns : goal.returns
returns c =
    let l = c.loop in
    let s = c.args.s.now in
    let e : c.word-end.result - l.counter ≡ 0 = omega (arith, c.loop-test.false) in
    c.after_blocks.ensures l.least ∙ sym (l.invariant.0 ∙ ap (λ (x : ℕ). blocks_from layout s x l.least l.at) e)
