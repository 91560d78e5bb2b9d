-- `read_sheet::rows_tell`: the two tests in their order. Assumes nothing.
use mathlib.Core.Path.{◌≡◌, sym, ap, ◌∙◌}
use mathlib.Core.Bool.{Bool, true, false}
use Prim.Native.Nat.{ℕ, ◌-◌, ◌^◌}
use Rattle.read_sheet.specs.Reading.{some_beyond, all_full, rows_tell}
use Rattle.read_sheet.proofs.rows_tell.Goals as goal
use Rattle.read_sheet.proofs.rows_tell.Goals.{After-allows_all, After-some_beyond}

-- what the tests say
beyond : (b : Bool) (c : After-some_beyond) → c.some_beyond.result ≡ b → some_beyond c.args.x.now (2 ^ c.args.z - 1) ≡ b
beyond b c e = ap (some_beyond c.args.x.now) (sym c.below-full.ensures) ∙ sym c.some_beyond.ensures ∙ e

full : (b : Bool) (c : After-allows_all) → c.allows_all.result ≡ b → let a = c.args in all_full a.x.now (2 ^ a.z - 1) a.k ≡ b
full b c e =
    let a = c.args in
    ap (λ (n : ℕ). all_full a.x.now n a.k) (sym c.below-full.ensures) ∙ sym c.allows_all.ensures ∙ e

pub returns-then-some_beyond : goal.returns-then-some_beyond
unfolding rows_tell
returns-then-some_beyond c = rw (beyond true (goal.at.returns-then-some_beyond c).After-some_beyond c.if-some_beyond.true)

pub returns-then-allows_all : goal.returns-then-allows_all
unfolding rows_tell
returns-then-allows_all c = rw (beyond false (goal.at.returns-then-allows_all c).After-some_beyond c.if-some_beyond.false, full true (goal.at.returns-then-allows_all c).After-allows_all c.if-allows_all.true)

pub returns : goal.returns
unfolding rows_tell
returns c = rw (beyond false (goal.at.returns c).After-some_beyond c.if-some_beyond.false, full false (goal.at.returns c).After-allows_all c.if-allows_all.false)
