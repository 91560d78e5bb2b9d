-- `snake_substitution::substitution_others`: a loop over the neighbours of i; every variable where the rule fails is still left. Assumes nothing.
use mathlib.Core.Path.{◌≡◌, sym, ap, ◌∙◌, subst}
use mathlib.Core.Bool.{Bool, true, not}
use mathlib.Core.Logic.{◌≢◌}
use Prim.Native.Nat.{ℕ, ◌<◌}
use lib.Bits.{bit_and, and_le_r}
use lib.Dec.{T}
use native.Mathlib.Nat.{lt_of_le_of_lt}
use borrow.Author.Tests.{not-false}
use Rattle.bounded.specs.Quantifiers.{lowest}
use Rattle.bounded.specs.Mask.{bit}
use Rattle.bounded.proofs.Truth.{T_true, T_false, and_iff}
use Rattle.bounded.proofs.Mask.{bit_and_lem, bit_without32}
use Rattle.bounded.proofs.Members.{Sought, sought_all, sought_next, sought_none, left_lowest}
use Rattle.bounded.proofs.Loops.{all_intro, all_fail}
use Rattle.cover.proofs.Laws.{other_by}
use Rattle.snake_substitution.proofs.Laws.{substitution_near}
use Rattle.snake_substitution.proofs.substitution_others.Goals as goal
use Rattle.snake_substitution.proofs.substitution_others.Goals.{After-lowest-k}

-- the variable of a turn is in the set
member : {f : ℕ → Bool} {left k : ℕ} (rest x : ℕ) → Sought 32 f (bit_and rest x) left → left ≢ 0 → k ≡ lowest 32 (bit left) → (k < 32) × (bit rest k ≡ true)
member {f} {left} {k} rest x S d e =
    let l = left_lowest 32 bit_without32 S.left d e in
    (l.0, T_true _ ((and_iff (bit rest k) (bit x k)).0 (subst T (bit_and_lem rest x k) (S.left.part k l.1))).0)

at_turn : (c : After-lowest-k) → (c.lowest-k.result < 32) × (bit c.without-rest.result c.lowest-k.result ≡ true)
at_turn c = member _ _ c.loop-left.invariant c.loop-left-test.true c.lowest-k.ensures

pub substitution_at-requires : goal.substitution_at-requires
substitution_at-requires c =
    let p = c.requires in
    let m = at_turn (goal.at.substitution_at-requires c).After-lowest-k in
    (p.0, p.1, c.without-rest.ensures, m.0, m.1)

pub returns-then-not-substitution_at : goal.returns-then-not-substitution_at
returns-then-not-substitution_at c =
    let p = c.requires in
    sym (sym (other_by c.args.view.ready _ _ c.without-rest.ensures p.0.variable _) ∙ all_fail _ 32 _ (at_turn (goal.at.returns-then-not-substitution_at c).After-lowest-k).0 (sym c.substitution_at.ensures ∙ c.if-not-substitution_at.true))

pub without-left-requires : goal.without-left-requires
without-left-requires c = (at_turn (goal.at.without-left-requires c).After-lowest-k).0

pub loop-left-smaller : goal.loop-left-smaller
loop-left-smaller c =
    rw c.without-left.ensures
    (left_lowest 32 bit_without32 c.loop-left.invariant.left c.loop-left-test.true c.lowest-k.ensures).2

pub loop-left-preserved : goal.loop-left-preserved
loop-left-preserved c =
    rw c.without-left.ensures
    (sought_next 32 bit_without32 c.loop-left.invariant (at_turn (goal.at.loop-left-preserved c).After-lowest-k).0 (ap not (sym c.substitution_at.ensures) ∙ ap not c.if-not-substitution_at.false))

pub returns : goal.returns
returns c =
    let p = c.requires in
    sym (sym (other_by c.args.view.ready _ _ c.without-rest.ensures p.0.variable _) ∙ all_intro _ 32 (λ k l. not-false _ (T_false _ (sought_none c.loop-left.invariant c.loop-left-test.false k l))))

pub loop-left-init : goal.loop-left-init
loop-left-init c = let p = c.requires in sought_all 32 _ _ (lt_of_le_of_lt (and_le_r c.without-rest.result _) c.neighbours.ensures.small) (substitution_near c.args.view.ready _ _ _ _ _ c.without-rest.ensures p.1 c.neighbours.ensures)
