-- `report::put_steps`: the step lines, written one by one. Assumes nothing.
use mathlib.Core.Path.{sym, ◌∙◌}
use native.Mathlib.Numerals.{unary_clauses}
use native.Mathlib.Omega.{arith}
use Rattle.report.proofs.Records.{read_small}
use Rattle.fields.proofs.Putting.{putting_start, kept_length, piece_room, putting_next, all_put}
use Rattle.report.proofs.Steps.{one_line, all_lines, end_lines, malformed_lines}
use Rattle.report.proofs.put_steps.Goals as goal

pub loop-k-init : goal.loop-k-init
loop-k-init c = simp unary_clauses (putting_start _ _ _ _ _ c.requires.1)

pub put_step_line-end-requires : goal.put_step_line-end-requires
put_step_line-end-requires c =
    let w = c.loop-k in
    let e = sym c.record_at.ensures ∙ c.in-Read.is in
    (omega arith, (piece_room _ _ _ _ _ _ _ _ _ w.invariant (omega arith), read_small _ (λ k. omega (arith, c.type_inv.trace k)) _ _ _ e))

pub loop-k-preserved : goal.loop-k-preserved
loop-k-preserved c =
    let w = c.loop-k in
    let e = sym c.record_at.ensures ∙ c.in-Read.is in
    let p = c.put_step_line-end.ensures in
    putting_next _ _ _ _ _ _ _ _ _ w.invariant (omega arith) _ _ (one_line _ _ _ _ (omega arith) _ _ e) _ _ p.text p.within

pub shape_of-out-in-End : goal.shape_of-out-in-End
shape_of-out-in-End c = kept_length _ _ _ _ _ _ _ _ _ c.loop-k.invariant

pub returns-in-End : goal.returns-in-End
returns-in-End c =
    let w = c.loop-k in
    record { text = all_put _ _ _ _ _ _ _ _ _ w.invariant (end_lines _ _ _ _ (sym c.record_at.ensures ∙ c.in-End.is)); within = omega arith }

pub shape_of-out-in-Malformed : goal.shape_of-out-in-Malformed
shape_of-out-in-Malformed c = kept_length _ _ _ _ _ _ _ _ _ c.loop-k.invariant

pub returns-in-Malformed : goal.returns-in-Malformed
returns-in-Malformed c =
    let w = c.loop-k in
    record { text = all_put _ _ _ _ _ _ _ _ _ w.invariant (malformed_lines _ _ _ _ (sym c.record_at.ensures ∙ c.in-Malformed.is)); within = omega arith }

pub shape_of-out : goal.shape_of-out
shape_of-out c = kept_length _ _ _ _ _ _ _ _ _ c.loop-k.invariant

pub returns : goal.returns
returns c = let w = c.loop-k in record { text = all_put _ _ _ _ _ _ _ _ _ w.invariant (all_lines _ _ _ _ (omega arith)); within = omega arith }
