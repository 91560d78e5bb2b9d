-- `replay::check_records`: each turn keeps the whole answer ahead. Assumes nothing.
use mathlib.Core.Path.{◌≡◌, sym, ap, ◌∙◌, subst}
use mathlib.Core.List.{List}
use mathlib.Core.Bool.{true}
use Prim.Native.Nat.{ℕ, ◌+◌, ◌≤◌, ◌<◌}
use native.Mathlib.Omega.{arith}
use lib.ListN.{length}
use mathlib.Core.Logic.{◌⊎◌, inl, inr}
use Rattle.bounded.proofs.Truth.{lt_dec}
use Rattle.buffers.specs.Bytes.{byte_at}
use Rattle.problem.specs.Held.{held}
use Rattle.problem.specs.declared.Masks.{Masks}
use Rattle.trace.specs.Trace.{record_at}
use Rattle.trace.specs.declared.RecordRead.{RecordRead}
use Rattle.trace.specs.Place.{place_after}
use Rattle.trace.proofs.Place.{after_whole, after_cut}
use Rattle.replay.specs.Walk.{checked_turn}
use Rattle.replay.specs.declared.Checking.{Checking}
use Rattle.replay.proofs.Turn.{Good, turns, good_on, good_off, walk_start, turn_good}
use Rattle.replay.proofs.check_records.Goals as goal

-- a reader that is moved stays within the bytes or just after them
after_within : (s : List ℕ) (p : ℕ) → p ≤ length s + 1 → place_after s p ≤ length s + 1
after_within s p h = go (lt_dec (p + byte_at s p) (length s))
  where
    go : (p + byte_at s p < length s) ⊎ (length s ≤ p + byte_at s p) → place_after s p ≤ length s + 1
    go (inl l) = omega (arith, after_whole s p l)
    go (inr l) = omega (arith, after_cut s p l)

-- the check and the place that a turn leaves, by what the calls in it say
turned : (t s w : List ℕ) (m : Masks) (c d : Checking) (x : RecordRead) (p q : ℕ) → w ≡ s → Good t s m c p → c.on ≡ true → x ≡ record_at w p → d ≡ checked_turn (held t) c x → q ≡ place_after w p
    → Good t s m d q × (turns t s m d q < turns t s m c p)
turned t s w m c d x p q e g on ex ed eq =
    let y = turn_good t s m c p g on in
    let k : q ≡ place_after s p = eq ∙ ap (λ (z : List ℕ). place_after z p) e in
    let j : d ≡ checked_turn (held t) c (record_at s p) = ed ∙ ap (checked_turn (held t) c) (ex ∙ ap (λ (z : List ℕ). record_at z p) e) in
    subst (λ (z : ℕ). Good t s m d z × (turns t s m d z < turns t s m c p)) (sym k)
    (subst (λ (z : Checking). Good t s m z (place_after s p) × (turns t s m z (place_after s p) < turns t s m c p)) (sym j) y)

pub loop-c-init : goal.loop-c-init
loop-c-init c =
    let e = c.placed-r.ensures in
    let a = c.args in
    (ap (λ (b : _). b.now) e.0, omega (arith, e.1), subst (Good a.view.table.now a.trace.now a.view.state.now c.going-c.result) (sym e.1) (subst (λ (z : Checking). Good a.view.table.now a.trace.now a.view.state.now z 1) (sym c.going-c.ensures) (walk_start a.view.table.now a.trace.now a.view.state.now a.view.ready)))

pub check_record-c-requires : goal.check_record-c-requires
check_record-c-requires c =
    let a = c.args in
    let w = c.loop-c in
    let g = good_on a.view.table.now a.trace.now a.view.state.now w.c w.r.at w.invariant.2 c.loop-c-test.true in
    let few = g.1.1.1 in
    let within = w.invariant.1 in
    (g.0, omega arith)

pub loop-c-preserved : goal.loop-c-preserved
loop-c-preserved c =
    let a = c.args in
    let w = c.loop-c in
    let e = c.moved-r.ensures in (
      ap (λ (b : _). b.now) e.0 ∙ w.invariant.0,
      rw (e.1, w.invariant.0) (after_within a.trace.now w.r.at w.invariant.1),
      (turned a.view.table.now a.trace.now w.r.src.now a.view.state.now w.c c.check_record-c.result c.peek.result w.r.at c.moved-r.result.at w.invariant.0 w.invariant.2 c.loop-c-test.true c.peek.ensures c.check_record-c.ensures e.1).0,
    )

pub loop-c-smaller : goal.loop-c-smaller
loop-c-smaller c =
    let a = c.args in
    let w = c.loop-c in
    (turned a.view.table.now a.trace.now w.r.src.now a.view.state.now w.c c.check_record-c.result c.peek.result w.r.at c.moved-r.result.at w.invariant.0 w.invariant.2 c.loop-c-test.true c.peek.ensures c.check_record-c.ensures c.moved-r.ensures.1).1

pub returns : goal.returns
returns c = let a = c.args in let w = c.loop-c in good_off a.view.table.now a.trace.now a.view.state.now w.c w.r.at w.invariant.2 c.loop-c-test.false
