-- `replay::check_record`: one turn of a check, by what the reader found. Assumes nothing.
use mathlib.Core.Path.{sym, ap, ◌∙◌}
use mathlib.Core.Bool.{Bool}
use Prim.Native.Nat.{◌+◌}
use Rattle.bounded.proofs.Truth.{T_of}
use Rattle.problem.specs.Run.{broken_cover, after}
use Rattle.problem.specs.Held.{held}
use Rattle.problem.specs.Masks.{state_of, masks_of}
use Rattle.problem.specs.declared.Masks.{Masks}
use Rattle.replay.specs.Walk.{going_on, stopped_with, ruled_turn, checked_turn}
use Rattle.replay.proofs.check_record.Goals as goal

pub after_lawful-requires : goal.after_lawful-requires
after_lawful-requires c = T_of (sym c.lawful.ensures ∙ c.if-lawful.true)

pub invariant_of-view : goal.invariant_of-view
invariant_of-view c = record { ready = c.requires.0 }

pub returns-then-lawful : goal.returns-then-lawful
returns-then-lawful c =
    let a = c.args in
    let r = c.in-Read.record in
    let P = held a.t.now in
    let w = a.c in
    c.going.ensures ∙ ap (λ (y : Masks). going_on y (w.count + 1)) c.after_lawful.ensures
    ∙ sym (ap (checked_turn P w) c.in-Read.is ∙ ap (λ (b : Bool). ruled_turn b (masks_of (after P (state_of w.end.state) r)) w.count (broken_cover P (state_of w.end.state) r)) (sym c.lawful.ensures ∙ c.if-lawful.true))

pub returns-else-lawful : goal.returns-else-lawful
returns-else-lawful c =
    let a = c.args in
    let r = c.in-Read.record in
    let P = held a.t.now in
    let w = a.c in
    c.stopped.ensures ∙ ap stopped_with c.unlawful.ensures
    ∙ sym (ap (checked_turn P w) c.in-Read.is ∙ ap (λ (b : Bool). ruled_turn b (masks_of (after P (state_of w.end.state) r)) w.count (broken_cover P (state_of w.end.state) r)) (sym c.lawful.ensures ∙ c.if-lawful.false))

pub returns-in-End : goal.returns-in-End
returns-in-End c = let a = c.args in c.stopped-in-End.ensures ∙ sym (ap (checked_turn (held a.t.now) a.c) c.in-End.is)

pub returns-in-Malformed : goal.returns-in-Malformed
returns-in-Malformed c = let a = c.args in c.stopped-in-Malformed.ensures ∙ ap stopped_with c.fault.ensures ∙ sym (ap (checked_turn (held a.t.now) a.c) c.in-Malformed.is)
