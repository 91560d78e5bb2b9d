-- `read_sheet::block_at`. Assumes nothing.
use mathlib.Core.Path.{sym, ◌∙◌}
use native.Mathlib.Omega.{arith}
use Rattle.sheet.specs.Sheet.{layout}
use Rattle.sheet.proofs.Laws.{block_missing, block_there}
use Rattle.read_sheet.proofs.Rows.{no_rows}
use Rattle.read_sheet.proofs.block_at.Goals as goal

pub returns-then-s-p-lt2 : goal.returns-then-s-p-lt2
returns-then-s-p-lt2 c = record { answer = sym (block_missing _ _ _ _ (omega arith)); rows = no_rows _ _ _ _ _ _ }

pub returns : goal.returns
returns c =
    let a = c.args in
    let s = a.s.now in record {
      answer = rw (c.byte.ensures.is, c.byte-2.ensures.is) at c.block_of.ensures.answer ∙ sym (block_there layout s a.least a.p (omega arith));
      rows = rw (c.byte.ensures.is, c.byte-2.ensures.is) at c.block_of.ensures.rows;
    }
