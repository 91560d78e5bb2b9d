-- `read_sheet::blocks`: the answer from the start is the answer from here, and the table shows what was met. Assumes nothing.
use mathlib.Core.Path.{◌≡◌, refl, sym, ap, ◌∙◌, subst}
use Prim.Native.Nat.{ℕ, ◌+◌, ◌-◌, ◌<◌}
use native.Mathlib.Omega.{arith}
use borrow.Author.Rules.{rules}
use Rattle.std.proofs.lemmas.Result.{err_from_is_err_and}
use Rattle.buffers.specs.Bytes.{byte_at}
use Rattle.sheet.specs.Sheet.{layout, blocks_from}
use Rattle.sheet.proofs.Laws.{in_order_lem, Whole, whole, blocks_fault, blocks_next}
use Rattle.read_sheet.proofs.Stores.{clear_local}
use Rattle.read_sheet.proofs.Pass.{all_left, one_fewer, Pass, pass_first, pass_more, pass_end, refused_block}
use Rattle.read_sheet.proofs.blocks.Goals as goal
use Rattle.read_sheet.proofs.blocks.Goals.{In_ok-next}

-- the block that was met is good, and its rows are read
block : (c : In_ok-next) → let l = c.loop in Whole layout c.args.s.now l.least l.at c.in_ok-next.next.least c.in_ok-next.next.at
block c = whole _ _ _ _ _ _ (sym c.block_at.ensures.answer ∙ c.in_ok-next.was)

pair : (c : In_ok-next) → let s = c.args.s.now in let p = c.loop.at in (byte_at s p < byte_at s (p + 1)) × (byte_at s (p + 1) < 32)
pair c =
    let s = c.args.s.now in
    let l = c.loop in
    let o = in_order_lem layout s l.least (byte_at s l.at) (byte_at s (l.at + 1)) (block c).order in
    (o.0, omega (arith, o.1.0, c.requires.0.few))

pub loop-init : goal.loop-init
loop-init c =
    let p = c.requires in
    let f = p.0.room in
    rw (all_left, c.byte-at.ensures.is, c.word-end.ensures.is) (refl, omega arith, pass_first _ _ p.0 p.1)

pub block_at-requires : goal.block_at-requires
block_at-requires c = (c.requires.0, c.loop.invariant.1, clear_local)

pub shape_of-t-in_err-next : goal.shape_of-t-in_err-next
shape_of-t-in_err-next c = c.loop.invariant.2.located.long ∙ sym c.requires.1.located.long

pub returns-in_err-next : goal.returns-in_err-next
returns-in_err-next c =
    let s = c.args.s.now in
    let l = c.loop in
    let p = err_from_is_err_and c.from_residual.result c.from_residual.ensures.1 in
    let q = refused_block s l.t _ (sym (l.invariant.0 ∙ blocks_fault layout s _ l.least l.at (omega (arith, c.loop-test.true)) _ (sym c.block_at.ensures.answer ∙ c.in_err-next.was))) in
    rw (p.1, p.2) record { answer = q.0; filled = q.1 }

pub byte-requires : goal.byte-requires
byte-requires c = let h = (block (goal.at.byte-requires c).In_ok-next).within in omega arith

pub overflow_add-at-in-loop : goal.overflow_add-at-in-loop
overflow_add-at-in-loop c = let h = (block (goal.at.overflow_add-at-in-loop c).In_ok-next).within in search rules

pub byte-requires-in-loop : goal.byte-requires-in-loop
byte-requires-in-loop c = let h = (block (goal.at.byte-requires-in-loop c).In_ok-next).within in omega arith

pub enter-requires : goal.enter-requires
enter-requires c =
    let o = pair (goal.at.enter-requires c).In_ok-next in
    rw (c.byte-in-loop.ensures.is, c.byte.ensures.is) (c.loop.invariant.2.located, o.0, o.1)

pub loop-preserved : goal.loop-preserved
loop-preserved c =
    let s = c.args.s.now in
    let l = c.loop in
    let n = c.word-end.result in
    let h : 0 < n - l.counter = omega (arith, c.loop-test.true) in
    let x = c.in_ok-next.next in
    let w = block (goal.at.loop-preserved c).In_ok-next in
    let key = w.next in
    let m = w.within in
    let e = rw (c.byte-in-loop.ensures.is, c.byte.ensures.is) at c.enter.ensures in (
      l.invariant.0 ∙ blocks_next layout s _ l.least l.at h _ _ (sym c.block_at.ensures.answer ∙ c.in_ok-next.was) ∙ ap (λ (k : ℕ). blocks_from layout s k x.least x.at) (one_fewer n l.counter),
      omega arith,
      subst (λ (k : ℕ). Pass s c.enter.new.t k x.least x.at) (one_fewer n l.counter)
          (pass_more s l.t _ _ l.least l.at _ _ _ h c.requires.0 w (c.block_at.ensures.rows.rows _ _ c.in_ok-next.was) e l.invariant.2),
    )

pub shape_of-t : goal.shape_of-t
shape_of-t c = c.loop.invariant.2.located.long ∙ sym c.requires.1.located.long

pub returns : goal.returns
returns c =
    let l = c.loop in
    let s = c.args.s.now in
    let e : c.word-end.result - l.counter ≡ 0 = omega (arith, c.loop-test.false) in record {
      answer = c.after_blocks.ensures l.least ∙ sym (l.invariant.0 ∙ ap (λ (x : ℕ). blocks_from layout s x l.least l.at) e);
      filled = λ y. pass_end s _ _ l.least l.at e y l.invariant.2;
    }
