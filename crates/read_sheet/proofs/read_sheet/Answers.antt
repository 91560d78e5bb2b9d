-- `read_sheet::read_sheet`: the front refuses, or the blocks decide. Assumes nothing.
use mathlib.Core.Path.{sym, ◌∙◌}
use Rattle.std.proofs.lemmas.Result.{err_from_is_err_and}
use Rattle.read_sheet.proofs.read_sheet.Goals as goal

pub check-requires : goal.check-requires
check-requires c = (c.front.ensures.good _ _ c.in_ok-front.was).0

pub returns-in_err-front : goal.returns-in_err-front
returns-in_err-front c =
    let p = err_from_is_err_and c.from_residual.result c.from_residual.ensures.1 in
    rw (p.1, p.2) (sym (c.front.ensures.refused _ c.in_err-front.was))

pub returns : goal.returns
returns c = c.check.ensures ∙ sym (c.front.ensures.good _ _ c.in_ok-front.was).1
