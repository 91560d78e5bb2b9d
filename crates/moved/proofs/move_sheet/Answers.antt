-- `moved::move_sheet`: what reading the sheet finds, and the table that it fills. Assumes nothing.
use mathlib.Core.Path.{sym, ap, ◌∙◌}
use Rattle.std.specs.Prelude.{Err}
use Prim.Native.Nat.{ℕ}
use native.Mathlib.Omega.{arith}
use Rattle.problem.specs.Problem.{Problem}
use Rattle.sheet.specs.Sheet.{layout}
use Rattle.sheet.specs.Relation.{problem_of}
use Rattle.sheet.proofs.Accepted.{facts}
use Rattle.jobs.proofs.Opened.{table_refused, table_kept, table_rows, table_job}
use Rattle.moved.specs.Move.{MoveResult, other_version, move_over}
use Rattle.moved.proofs.Job.{moved_taken, move_sheet_refused, move_kept}
use Rattle.moved.proofs.move_sheet.Goals as goal

pub byte-requires : goal.byte-requires
byte-requires c = let h = (facts layout _ (table_kept _ _ (c.read_table.ensures.answer, c.read_table.ensures.filled) c.in-Ok.is)).eight in omega arith

pub move_over-requires : goal.move_over-requires
move_over-requires c =
    let r = c.read_table.ensures in
    let e = c.in-Ok.is in
    (table_rows _ _ (r.answer, r.filled) e, record { taken = rw (c.other_version.ensures, c.byte.ensures.is) (moved_taken _ (table_kept _ _ (r.answer, r.filled) e)) })

pub returns-in-Err : goal.returns-in-Err
returns-in-Err c =
    let a = c.args in
    let q = sym (move_sheet_refused a.sheet.now a.target.now _ (table_refused _ _ (c.read_table.ensures.answer, c.read_table.ensures.filled) c.in-Err.is)) in
    record { answer = ap Err c.from.ensures ∙ ap (λ (x : MoveResult). x.answer) q; target = ap (λ (x : MoveResult). x.target) q }

pub returns-in-Ok : goal.returns-in-Ok
returns-in-Ok c =
    let a = c.args in
    let v = c.other_version.ensures ∙ ap other_version c.byte.ensures.is in
    let q =
    table_job _ _ (c.read_table.ensures.answer, c.read_table.ensures.filled) c.in-Ok.is
    (λ (P : Problem). move_over c.other_version.result P a.target.now)
    (λ K. move_kept a.sheet.now a.target.now K ∙ ap (λ (x : ℕ). move_over x (problem_of layout a.sheet.now) a.target.now) (sym v)) in
    let p = c.move_over.ensures in
    record { answer = p.answer ∙ ap (λ (x : MoveResult). x.answer) q; target = p.target ∙ ap (λ (x : MoveResult). x.target) q }
