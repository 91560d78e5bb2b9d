-- `first_plan::pick` and `first_plan::tries`, which call each other. Assumes nothing.
use Prim.Native.Nat.{ℕ, ◌<◌}
use mathlib.Core.Path.{◌≡◌, sym, ap, ◌∙◌}
use mathlib.Core.Bool.{Bool}
use mathlib.Core.Logic.{◌≢◌}
use native.Mathlib.Omega.{arith}
use lib.ListN.{length}
use borrow.Author.Rules.{rules}
use Rattle.problem.specs.Held.{held}
use Rattle.problem.specs.Masks.{state_of}
use Rattle.problem.specs.Sentences.{Solution}
use Rattle.first_plan.specs.Steps.{answer}
use Rattle.first_plan.proofs.Branches.{put_back, pick_done, tries_none, next_emptied, value_lt, value_live, fewer, shut, missed, taken, no_more, less, still_next, on_with, all_shut}
use Rattle.first_plan.proofs.+pick_tries.Goals as goal
use Rattle.first_plan.proofs.+pick_tries.Goals.{tries-Joined-attempt, tries-in-Some+else-pick, tries-in_default}

-- no solution has the value that was tried, and the plan is as it was
none_with : (t : ℕ) (c : tries-Joined-attempt t) → let a = c.args in
    ((q : ℕ → ℕ) → Solution (held a.t.now.now) (state_of a.m.now) q → q a.i ≢ c.lowest-v.result) × (c.match-attempt.plan ≡ a.plan.now)
none_with t c =
    let p = c.requires in
    let a = c.args in
    let O = c.attempt.ensures in
    let d = c.if-domain-eq0.false in
    let e = c.lowest-v.ensures in
    let lt : a.i < length a.plan.now = omega (arith, p.1.variable, c.told-plan) in
    elim c.match-attempt.branch [
      | tries-in-Some+else-pick w ↦
          let N = O.narrowed _ w.in-Some.is in
          (missed p.0 _ _ p.1 d e N a.plan.now c.told-plan _ w.pick.ensures w.if-pick.false, w.plan-is ∙ put_back _ _ a.plan.now _ _ N.ready lt w.pick.ensures w.if-pick.false)
      | tries-in_default w ↦ (shut p.0 _ _ p.1 d e O w.in_default.is, w.plan-is)
    ]

pub pick-returns-then-i-ge32 : goal.pick-returns-then-i-ge32
pick-returns-then-i-ge32 t c = pick_done c.requires _ c.lowest-i.ensures c.if-i-ge32.true _

pub tries-returns-then-domain-eq0 : goal.tries-returns-then-domain-eq0
tries-returns-then-domain-eq0 t c = let p = c.requires in tries_none p.0 (next_emptied p.0 _ p.1 c.if-domain-eq0.true) _

pub tries-attempt-requires : goal.tries-attempt-requires
tries-attempt-requires t c = let p = c.requires in (p.0, value_live p.0 _ _ p.1 c.if-domain-eq0.false c.lowest-v.ensures)

pub tries-overflow_cast-plan : goal.tries-overflow_cast-plan
tries-overflow_cast-plan t c = let p = c.requires in let l = value_lt p.0 _ _ p.1 c.if-domain-eq0.false c.lowest-v.ensures in search rules

pub tries-pick-requires : goal.tries-pick-requires
tries-pick-requires t c =
    let p = c.requires in
    let N = c.attempt.ensures.narrowed _ c.in-Some.is in
    let l = fewer p.0 _ _ p.1 c.if-domain-eq0.false c.lowest-v.ensures N in
    (omega (arith, c.decreases), N.ready)

pub tries-returns-then-pick : goal.tries-returns-then-pick
tries-returns-then-pick t c =
    let p = c.requires in
    let N = c.attempt.ensures.narrowed _ c.in-Some.is in
    ap (λ (ok : Bool). answer ok c.pick.new.plan) (sym c.if-pick.true) ∙ taken p.0 _ _ p.1 c.if-domain-eq0.false c.lowest-v.ensures N c.args.plan.now c.told-plan _ c.pick.ensures c.if-pick.true

pub tries-refute-requires : goal.tries-refute-requires
tries-refute-requires t c = let p = c.requires in (p.0, p.1.variable, value_lt p.0 _ _ p.1 c.if-domain-eq0.false c.lowest-v.ensures)

pub tries-returns-in_default-refute : goal.tries-returns-in_default-refute
tries-returns-in_default-refute t c =
    let p = c.requires in
    let x = none_with t (goal.at.tries-returns-in_default-refute t c).Joined-attempt in
    all_shut p.0 _ _ p.1 c.if-domain-eq0.false c.lowest-v.ensures x.0 c.args.plan.now _ x.1 c.refute.ensures c.in_default-refute.is

pub tries-tries-requires : goal.tries-tries-requires
tries-tries-requires t c =
    let p = c.requires in
    let d = c.if-domain-eq0.false in
    let e = c.lowest-v.ensures in
    let N = c.refute.ensures.narrowed _ c.in-Some-refute.is in
    let l = less p.0 _ _ p.1 d e N in
    let m = no_more p.0 _ _ p.1 d e N in
    (omega (arith, c.decreases), (N.ready, still_next p.0 _ _ p.1 d e N))

pub tries-returns : goal.tries-returns
tries-returns t c =
    let p = c.requires in
    let x = none_with t (goal.at.tries-returns t c).Joined-attempt in
    on_with p.0 _ _ p.1 c.if-domain-eq0.false c.lowest-v.ensures x.0 c.args.plan.now _ x.1 (c.refute.ensures.narrowed _ c.in-Some-refute.is) _ c.tries.ensures
