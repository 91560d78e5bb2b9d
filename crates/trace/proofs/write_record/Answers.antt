-- `trace::write_record`: the stores one after the other are the record, of two fields or of three. Assumes nothing.
use mathlib.Core.Path.{ap, ◌∙◌}
use native.Mathlib.Omega.{arith}
use native.Mathlib.Numerals.{towards_suc}
use lib.ListN.{length, length-set}
use Rattle.problem.proofs.Apart.{parts_few}
use Rattle.buffers.specs.Written.{written}
use Rattle.buffers.proofs.Written.{sets_written}
use Rattle.trace.proofs.Parts.{small_parts, two_bytes, three_bytes}
use Rattle.trace.proofs.write_record.Goals as goal

pub returns-then-parts-eq2 : goal.returns-then-parts-eq2
returns-then-parts-eq2 c =
    let a = c.args in
    let p = c.parts_of-parts in
    let b = two_bytes p.result a.r p.ensures c.if-parts-eq2.true in
    (simp towards_suc (sets_written a.out.now a.at _ (omega arith)) ∙ ap (written a.out.now a.at) b, omega (arith, ap length b))

pub returns : goal.returns
returns c =
    let a = c.args in
    let p = c.parts_of-parts in
    let b = three_bytes p.result a.r p.ensures (λ e. c.if-parts-eq2.false e) in
    (simp towards_suc (sets_written a.out.now a.at _ (omega arith)) ∙ ap (written a.out.now a.at) b, omega (arith, ap length b))

pub overflow_add-out : goal.overflow_add-out
overflow_add-out c = omega (arith, parts_few _ c.args.r c.parts_of-parts.ensures)

pub overflow_cast-out : goal.overflow_cast-out
overflow_cast-out c = omega (arith, parts_few _ c.args.r c.parts_of-parts.ensures)

pub bounds-out-at-2 : goal.bounds-out-at-2
bounds-out-at-2 c = simp length-set (omega arith)

pub overflow_cast-out-2 : goal.overflow_cast-out-2
overflow_cast-out-2 c = omega (arith, (small_parts _ c.args.r c.parts_of-parts.ensures c.requires.1).0)

pub bounds-out-at-3 : goal.bounds-out-at-3
bounds-out-at-3 c = simp length-set (omega arith)

pub overflow_cast-out-3 : goal.overflow_cast-out-3
overflow_cast-out-3 c = omega (arith, (small_parts _ c.args.r c.parts_of-parts.ensures c.requires.1).1)

pub bounds-out-at-4 : goal.bounds-out-at-4
bounds-out-at-4 c = simp length-set (omega arith)

pub overflow_cast-out-4 : goal.overflow_cast-out-4
overflow_cast-out-4 c = omega (arith, (small_parts _ c.args.r c.parts_of-parts.ensures c.requires.1).2)

pub bounds-out-at-5 : goal.bounds-out-at-5
bounds-out-at-5 c = simp length-set (omega arith)
