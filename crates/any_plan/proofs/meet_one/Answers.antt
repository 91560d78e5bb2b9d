-- `any_plan::meet_one`. Assumes nothing.
use borrow.Author.Rules.{rules}
use Rattle.any_plan.proofs.Laws.{typed_sets, one_within, one_settled}
use Rattle.any_plan.proofs.meet_one.Goals as goal

pub overflow_mul-lowest : goal.overflow_mul-lowest
overflow_mul-lowest c = let l = one_within _ _ _ (typed_sets c.told-on c.fits-on) c.requires c.if-x-others.false c.others.ensures c.lowest.ensures in search rules

pub overflow_add-k : goal.overflow_add-k
overflow_add-k c = let l = one_within _ _ _ (typed_sets c.told-on c.fits-on) c.requires c.if-x-others.false c.others.ensures c.lowest.ensures in search rules

pub meet-requires : goal.meet-requires
meet-requires c =
    one_within _ _ _ (typed_sets c.told-on c.fits-on) c.requires c.if-x-others.false c.others.ensures c.lowest.ensures

pub returns : goal.returns
returns c =
    one_settled _ _ _ (typed_sets c.told-on c.fits-on) c.requires c.if-x-others.false c.others.ensures c.lowest.ensures c.meet.ensures
