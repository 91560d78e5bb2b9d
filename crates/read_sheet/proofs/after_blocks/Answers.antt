-- `read_sheet::after_blocks`. Assumes nothing.
use mathlib.Core.Path.{sym, ap, ◌∙◌}
use Prim.Native.Nat.{ℕ}
use native.Mathlib.Omega.{arith}
use Rattle.sheet.specs.Sheet.{layout, variables_of, accepted}
use Rattle.sheet.proofs.Laws.{blocks_over, blocks_end}
use Rattle.read_sheet.proofs.after_blocks.Goals as goal

pub returns-then-p-s : goal.returns-then-p-s
returns-then-p-s c = λ least. sym (blocks_over layout c.args.s.now least c.args.p c.if-p-s.true)

pub byte-requires : goal.byte-requires
byte-requires c = let f = c.requires.room in omega arith

pub word-requires : goal.word-requires
word-requires c = let f = c.requires.room in omega arith

pub returns : goal.returns
returns c =
    let s = c.args.s.now in
    λ least.
    ap (λ (x : ℕ). accepted x c.word.result) c.byte.ensures.is ∙ ap (accepted (variables_of s)) c.word.ensures.is
    ∙ sym (blocks_end layout s least c.args.p c.if-p-s.false)
