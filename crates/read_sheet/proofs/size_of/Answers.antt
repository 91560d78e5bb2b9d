-- `read_sheet::size_of`. Assumes nothing.
use mathlib.Core.Path.{sym, ◌∙◌}
use native.Mathlib.Omega.{arith}
use Rattle.sheet.specs.Sheet.{layout}
use Rattle.sheet.proofs.Accepted.{size_in, size_out}
use Rattle.read_sheet.proofs.size_of.Goals as goal

pub returns-then-k-byte : goal.returns-then-k-byte
returns-then-k-byte c =
    let e = c.byte.ensures.is in
    let l = c.if-k-byte.true in
    c.byte-then-k-byte.ensures.is ∙ sym (size_in layout _ _ (omega arith))

pub returns-else-k-byte : goal.returns-else-k-byte
returns-else-k-byte c =
    let e = c.byte.ensures.is in
    let l = c.if-k-byte.false in
    sym (size_out layout _ _ (omega arith))
