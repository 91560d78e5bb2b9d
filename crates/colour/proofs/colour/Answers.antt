-- `colour::colour`: the file is read, and the rest goes by what was found. Assumes nothing.
use mathlib.Core.Path.{sym, ap, ◌∙◌}
use Rattle.colour.specs.Colour.{ColourResult}
use Rattle.colour.proofs.Job.{err_is, blank_marks, job_bad, job_read}
use Rattle.colour.proofs.colour.Goals as goal

pub read_graph-requires : goal.read_graph-requires
read_graph-requires c = blank_marks

pub returns-in_err-found : goal.returns-in_err-found
returns-in_err-found c =
    let a = c.args in
    let e = sym (job_bad a.file.now a.channels a.sheet.now _ _ c.in_err-found.ensures) in
    record { answer = err_is _ _ c.from_residual.ensures.1 ∙ ap (λ (x : ColourResult). x.answer) e; buffer = ap (λ (x : ColourResult). x.buffer) e }

pub returns : goal.returns
returns c =
    let a = c.args in
    let e = job_read a.file.now a.channels a.sheet.now _ _ c.in_ok-found.ensures in
    record {
      answer = c.colour_graph.ensures.answer ∙ ap (λ (x : ColourResult). x.answer) e;
      buffer = c.colour_graph.ensures.buffer ∙ ap (λ (x : ColourResult). x.buffer) e;
    }
