-- `read_sheet::read_table`: the front refuses, or the blocks decide. Assumes nothing.
use mathlib.Core.Path.{sym, ◌∙◌}
use Rattle.std.proofs.lemmas.Result.{err_from_is_err_and}
use Rattle.read_sheet.proofs.Pass.{refused}
use Rattle.read_sheet.proofs.read_table.Goals as goal

pub fill-requires : goal.fill-requires
fill-requires c = ((c.front.ensures.good _ _ c.in_ok-front.was).0, c.requires)

pub returns-in_err-front : goal.returns-in_err-front
returns-in_err-front c =
    let p = err_from_is_err_and c.from_residual.result c.from_residual.ensures.1 in
    let q = refused c.args.s.now c.args.t.now _ (sym (c.front.ensures.refused _ c.in_err-front.was)) in
    rw (p.1, p.2) record { answer = q.0; filled = q.1 }

pub returns : goal.returns
returns c =
    let f = c.fill.ensures in
    record { answer = f.answer ∙ sym (c.front.ensures.good _ _ c.in_ok-front.was).1; filled = f.filled }
