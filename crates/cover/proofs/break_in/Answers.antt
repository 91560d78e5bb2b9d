-- `cover::break_in`: a loop over the variables of the set; each that breaks the cover is still left. Assumes nothing.
use Rattle.std.specs.Prelude.{Option, Some, None}
use mathlib.Core.Path.{◌≡◌, refl, sym, ap, ◌∙◌}
use mathlib.Core.Bool.{Bool, true, false, not}
use mathlib.Core.Logic.{◌≢◌}
use Prim.Native.Nat.{ℕ, ◌<◌}
use borrow.Author.Rules.{rules}
use Rattle.bounded.specs.Quantifiers.{lowest}
use Rattle.bounded.specs.Mask.{bit}
use Rattle.bounded.proofs.Truth.{T_of, T_true}
use Rattle.bounded.proofs.Mask.{bit_without32}
use Rattle.bounded.proofs.Members.{Sought, sought_all, sought_next, sought_least, sought_none, left_lowest}
use Rattle.bounded.proofs.Loops.{at_lowest_is, at_lowest_none}
use Rattle.problem.specs.Problem.{break_at}
use Rattle.problem.specs.Held.{held}
use Rattle.problem.specs.Masks.{state_of}
use Rattle.cover.specs.Words.{spoiler_in, first_break_in}
use Rattle.cover.proofs.Laws.{in_set, break_member, apart}
use Rattle.cover.proofs.break_in.Invariants.{asked}
use Rattle.cover.proofs.break_in.Goals as goal
use Rattle.cover.proofs.break_in.Goals.{After-spoiler}

-- the variable of a turn is in the set
member : {f : ℕ → Bool} {rest left l : ℕ} → Sought 32 f rest left → left ≢ 0 → l ≡ lowest 32 (bit left) → (l < 32) × (bit rest l ≡ true)
member {f} {rest} {left} {l} S d e = let k = left_lowest 32 bit_without32 S.left d e in (k.0, T_true _ (S.left.part l k.1))

-- what the turn found is what the definition asks
found : (c : After-spoiler) → let a = c.args in
    c.spoiler.result ≡ spoiler_in (held a.view.table.now) (state_of a.view.state.now) a.rest a.i a.a a.j a.b c.lowest-l.result
found c =
    let m = member c.loop-left.invariant c.loop-left-test.true c.lowest-l.ensures in
    c.spoiler.ensures ∙ sym (in_set _ _ _ _ _ _ _ _ m.1)

pub spoiler-requires : goal.spoiler-requires
spoiler-requires c =
    let p = c.requires in
    let m = member c.loop-left.invariant c.loop-left-test.true c.lowest-l.ensures in
    (p.0, p.1, m.0, apart _ _ _ m.1 p.2, apart _ _ _ m.1 p.3)

-- where the test names no value, nothing is asked
unasked : (x : Option ℕ) → ((c : ℕ) → x ≡ Some c → ⊥) → asked x ≡ false
unasked None h = refl
unasked (Some c) h = absurd (h c refl)

pub returns-in-Some : goal.returns-in-Some
unfolding first_break_in
returns-in-Some c =
    let w = c.loop-left in
    let e = sym c.in-Some.is ∙ found (goal.at.returns-in-Some c).After-spoiler in
    let least = c.lowest-l.ensures in
    let m = member w.invariant c.loop-left-test.true least in
    ap (break_at _) e ∙ sym (at_lowest_is _ _ _ 32 _ m.0 (T_of (ap asked (sym e))) (sought_least w.invariant least))

pub without-left-requires : goal.without-left-requires
without-left-requires c = (member c.loop-left.invariant c.loop-left-test.true c.lowest-l.ensures).0

pub loop-left-smaller : goal.loop-left-smaller
loop-left-smaller c =
    let w = c.loop-left in
    rw c.without-left.ensures (left_lowest 32 bit_without32 w.invariant.left c.loop-left-test.true c.lowest-l.ensures).2

pub loop-left-preserved : goal.loop-left-preserved
loop-left-preserved c =
    let w = c.loop-left in
    let m = member w.invariant c.loop-left-test.true c.lowest-l.ensures in
    rw c.without-left.ensures
    (sought_next 32 bit_without32 w.invariant m.0 (ap asked (sym (found (goal.at.loop-left-preserved c).After-spoiler)) ∙ unasked _ (λ x h. c.in_default.not-Some x h)))

pub returns : goal.returns
unfolding first_break_in
returns c = sym (at_lowest_none _ _ _ 32 (sought_none c.loop-left.invariant c.loop-left-test.false))

pub loop-left-init : goal.loop-left-init
loop-left-init c = sought_all 32 _ _ (search rules) (λ l k h. break_member _ _ _ _ _ _ _ l h)
