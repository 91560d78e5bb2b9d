-- `any_plan::agrees_at`. Assumes nothing.
use mathlib.Core.Path.{ap}
use Prim.Native.Nat.{ℕ}
use borrow.Author.Rules.{rules}
use Rattle.lines.specs.Lines.{line_start}
use Rattle.any_plan.proofs.Laws.{typed_sets, line_within, agrees_line}
use Rattle.any_plan.proofs.agrees_at.Goals as goal

pub overflow_mul-lowest : goal.overflow_mul-lowest
overflow_mul-lowest c = let l = line_within (typed_sets c.told-on c.fits-on) _ _ (c.requires, c.if-x-eq0.false) c.lowest.ensures in search rules

pub overflow_add-k : goal.overflow_add-k
overflow_add-k c = let l = line_within (typed_sets c.told-on c.fits-on) _ _ (c.requires, c.if-x-eq0.false) c.lowest.ensures in search rules

pub barred-requires : goal.barred-requires
barred-requires c = line_within (typed_sets c.told-on c.fits-on) _ _ (c.requires, c.if-x-eq0.false) c.lowest.ensures

pub returns : goal.returns
returns c =
    let k = c.args.k in
    agrees_line k _ (c.requires, c.if-x-eq0.false) (ap (λ (a : ℕ). line_start k a) c.lowest.ensures) c.barred.ensures
