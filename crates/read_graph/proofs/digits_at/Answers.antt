-- `read_graph::digits_at`: those read make the number, those to come go on with it. Assumes nothing.
use mathlib.Core.Path.{◌≡◌, sym, ap, ◌∙◌}
use mathlib.Core.Bool.{true}
use lib.ListN.{get_or}
use Rattle.graph.specs.Graph.{is_digit}
use Prim.Native.Nat.{ℕ, ◌+◌}
use Rattle.read_graph.proofs.Laws.{digits_turn, digits_over, digits_full}
use native.Mathlib.Omega.{arith}
use Rattle.read_graph.proofs.digits_at.Goals as goal

pub returns-then-not-is_ascii_digit : goal.returns-then-not-is_ascii_digit
returns-then-not-is_ascii_digit c =
    let q = digits_over _ _ _ _ c.loop-k.invariant c.loop-k-test.true (ap is_digit (sym c.byte_at-b.ensures) ∙ sym c.is_ascii_digit.ensures.value ∙ c.if-not-is_ascii_digit.true) in
    record { value = q.0; next = q.1 }

pub loop-k-preserved : goal.loop-k-preserved
loop-k-preserved c =
    let a = c.args in
    let w = c.loop-k in
    let d : is_digit (get_or a.f.now (a.p + w.k) 10) ≡ true = ap is_digit (sym c.byte_at-b.ensures) ∙ sym c.is_ascii_digit.ensures.value ∙ c.if-not-is_ascii_digit.false in
    rw c.byte_at-b.ensures (digits_turn _ _ _ _ w.invariant c.loop-k-test.true d)

pub returns : goal.returns
returns c = let q = digits_full _ _ _ _ c.loop-k.invariant c.loop-k-test.false in record { value = q.0; next = ap (λ (n : ℕ). c.args.p + n) (omega arith) ∙ q.1 }
