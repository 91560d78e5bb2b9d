-- `snake_substitution::narrow_from`: the neighbours that are not left were asked. Assumes nothing.
use mathlib.Core.Path.{ap, ◌∙◌, subst}
use Prim.Native.Nat.{ℕ, ◌<◌}
use native.Mathlib.Nat.{lt_of_le_of_lt}
use lib.Bits.{bit_and, and_le_r}
use lib.Dec.{T}
use Rattle.bounded.specs.Mask.{bit, without, Highest}
use Rattle.bounded.proofs.Truth.{T_true, and_iff}
use Rattle.bounded.proofs.Mask.{bit_and_lem, bit_without32}
use Rattle.bounded.proofs.Members.{Left, left_all, left_next, left_highest}
use Rattle.cover.proofs.Laws.{other_apart}
use Rattle.snake_substitution.proofs.Goals.{goals_part, variables_first, variables_next, variables_end}
use Rattle.snake_substitution.proofs.narrow_from.Goals as goal
use Rattle.snake_substitution.proofs.narrow_from.Goals.{After-highest-k}

-- the variable of a turn: one of `rest`, and left
turn : {left l : ℕ} (rest x : ℕ) → Left 32 (bit_and rest x) left → Highest 32 left l → (l < 32) × T (bit rest l) × (without 32 left l < left)
turn {left} {l} rest x L H =
    let k = left_highest 32 bit_without32 L H in
    (k.0, ((and_iff (bit rest l) (bit x l)).0 (subst T (bit_and_lem rest x l) (L.part l k.1))).0, k.2)

at_turn : (c : After-highest-k) → let k = c.highest-k.result in let left = c.loop-left.left in
    (k < 32) × T (bit c.without-rest.result k) × (without 32 left k < left)
at_turn c = turn c.without-rest.result c.neighbours.result c.loop-left.invariant.0 c.highest-k.ensures

pub narrow_at-rests-requires : goal.narrow_at-rests-requires
narrow_at-rests-requires c =
    let p = c.requires in
    let v = c.loop-left.invariant in
    let rest = c.without-rest in
    let k = at_turn (goal.at.narrow_at-rests-requires c).After-highest-k in
    (goals_part p.0 v.1, p.1, c.without.ensures ∙ ap (λ (x : ℕ). without 32 x c.highest-k.result) rest.ensures, k.0, other_apart rest.result c.args.view.state.now.active _ _ rest.ensures p.1 (T_true _ k.1))

pub loop-left-preserved : goal.loop-left-preserved
loop-left-preserved c =
    let v = c.loop-left in
    rw c.without-left.ensures (left_next _ v.invariant.0, variables_next c.args.view.ready v.left _ (at_turn (goal.at.loop-left-preserved c).After-highest-k).0 v.invariant.1 c.narrow_at-rests.ensures)

pub returns : goal.returns
returns c =
    let v = c.loop-left in
    variables_end c.args.view.ready v.left c.some_goal.result c.loop-left-test.false c.some_goal.ensures v.invariant.1

pub loop-left-init : goal.loop-left-init
loop-left-init c = let p = c.requires in (left_all 32 _ (lt_of_le_of_lt (and_le_r c.without-rest.result _) c.neighbours.ensures.small), variables_first c.args.view.ready c.without-rest.ensures p.1 c.neighbours.ensures p.0)

pub loop-left-smaller : goal.loop-left-smaller
loop-left-smaller c = rw c.without-left.ensures (at_turn (goal.at.loop-left-smaller c).After-highest-k).2
