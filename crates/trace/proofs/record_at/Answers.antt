-- `trace::record_at`: the cases of proofs/Read.antt, in the order of the code's tests. Assumes nothing.
use mathlib.Core.Path.{ap, sym, ◌∙◌}
use Prim.Native.Nat.{ℕ, ◌+◌}
use native.Mathlib.Omega.{arith}
use Rattle.problem.proofs.Apart.{parts_few}
use Rattle.trace.specs.declared.RecordRead.TheVariants.{Read}
use Rattle.trace.proofs.Read.{at_end, at_cut, at_none, at_wrong, at_record}
use Rattle.trace.proofs.record_at.Goals as goal

pub returns-then-s-at : goal.returns-then-s-at
returns-then-s-at c = sym (at_end _ _ (omega arith))

pub returns-then-s-at-2 : goal.returns-then-s-at-2
returns-then-s-at-2 c = sym (at_cut _ _ (omega arith) (omega arith))

pub overflow_add-parts_of : goal.overflow_add-parts_of
overflow_add-parts_of c = let r = c.in-Some.record in omega (arith, parts_few _ r c.parts_of.ensures)

pub returns-then-n-parts_of : goal.returns-then-n-parts_of
returns-then-n-parts_of c = let r = c.in-Some.record in let k = (parts_few _ r c.parts_of.ensures).0 in let n = c.byte_at-n.ensures in sym (at_wrong _ _ r (omega arith) (sym c.numbered_at.ensures ∙ c.in-Some.is) (λ e. c.if-n-parts_of.true (omega arith)))

pub returns-in-None : goal.returns-in-None
returns-in-None c = sym (at_none _ _ (omega arith) (sym c.numbered_at.ensures ∙ c.in-None.is))

pub returns-else-n-parts_of : goal.returns-else-n-parts_of
returns-else-n-parts_of c = let r = c.in-Some.record in let k = (parts_few _ r c.parts_of.ensures).0 in let n = c.byte_at-n.ensures in let a = c.args in ap (λ (x : ℕ). Read r (a.at + 1 + x)) n ∙ sym (at_record _ _ r (omega arith) (sym c.numbered_at.ensures ∙ c.in-Some.is) (omega arith))
