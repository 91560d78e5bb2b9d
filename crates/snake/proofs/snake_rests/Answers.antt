-- `snake::snake_rests`: a loop over the neighbours of i; every variable where the rule fails is still left. Assumes nothing.
use mathlib.Core.Path.{◌≡◌, refl, subst}
use mathlib.Core.Bool.{Bool, true}
use Prim.Native.Nat.{ℕ, ◌<◌}
use lib.Bits.{bit_and, and_le_r}
use lib.Dec.{T}
use native.Mathlib.Nat.{lt_of_le_of_lt}
use Rattle.bounded.specs.Mask.{bit, without, Highest}
use Rattle.bounded.proofs.Truth.{T_true, and_iff}
use Rattle.bounded.proofs.Mask.{bit_and_lem, bit_without32}
use Rattle.bounded.proofs.Members.{Sought, sought_all, sought_next, sought_none, left_highest}
use Rattle.held.proofs.Laws.{bit_value}
use Rattle.snake.proofs.Laws.{snake_near, snake_passed, snake_all}
use Rattle.snake.proofs.snake_rests.Goals as goal
use Rattle.snake.proofs.snake_rests.Goals.{After-highest-j}

-- the variable of a turn: one of `rest`, and left
turn : {f : ℕ → Bool} {left j : ℕ} (rest x : ℕ) → Sought 32 f (bit_and rest x) left → Highest 32 left j → (j < 32) × (bit rest j ≡ true) × (without 32 left j < left)
turn {f} {left} {j} rest x S H =
    let k = left_highest 32 bit_without32 S.left H in
    (k.0, T_true _ ((and_iff (bit rest j) (bit x j)).0 (subst T (bit_and_lem rest x j) (S.left.part j k.1))).0, k.2)

at_turn : (c : After-highest-j) → let j = c.highest-j.result in let left = c.loop-left.left in
    (j < 32) × (bit c.without-rest.result j ≡ true) × (without 32 left j < left)
at_turn c = turn _ _ c.loop-left.invariant c.highest-j.ensures

pub snake_at-fails-requires : goal.snake_at-fails-requires
snake_at-fails-requires c =
    let p = c.requires in
    let m = at_turn (goal.at.snake_at-fails-requires c).After-highest-j in
    (bit_value c.args.view.ready _ _ p.2, c.without-rest.ensures, m.0, m.1)

pub loop-left-smaller : goal.loop-left-smaller
loop-left-smaller c = rw c.without-left.ensures (at_turn (goal.at.loop-left-smaller c).After-highest-j).2

pub loop-left-preserved : goal.loop-left-preserved
loop-left-preserved c =
    rw c.without-left.ensures
    (sought_next 32 bit_without32 c.loop-left.invariant (at_turn (goal.at.loop-left-preserved c).After-highest-j).0 (snake_passed _ c.snake_at-fails.ensures c.if-fails-ne0.false))

pub returns : goal.returns
returns c =
    let p = c.requires in
    record { holds = λ e. snake_all c.args.view.ready _ _ _ c.without-rest.ensures p.2 (sought_none c.loop-left.invariant c.loop-left-test.false); fails = λ d. absurd (d refl) }

pub loop-left-init : goal.loop-left-init
loop-left-init c = let p = c.requires in sought_all 32 _ _ (lt_of_le_of_lt (and_le_r c.without-rest.result _) c.neighbours.ensures.small) (snake_near c.args.view.ready _ _ _ _ c.without-rest.ensures (bit_value c.args.view.ready _ _ p.2) c.neighbours.ensures)
