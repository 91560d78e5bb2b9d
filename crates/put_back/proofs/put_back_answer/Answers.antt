-- `put_back::put_back_answer`: what it carries has room above the low byte. Assumes nothing.
use mathlib.Core.Path.{sym, ap, subst, ◌∙◌}
use Prim.Native.Nat.{◌+◌, ◌*◌}
use native.Mathlib.Omega.{arith}
use Rattle.put_back.specs.Call.{back_number, BackFits}
use Rattle.put_back.proofs.Call.{fields_small}
use Rattle.put_back.proofs.put_back_answer.Goals as goal

pub unlawful_fields-requires : goal.unlawful_fields-requires
unlawful_fields-requires c = subst BackFits c.in-Err.is c.requires

pub overflow_mul-result : goal.overflow_mul-result
overflow_mul-result c = let l = fields_small c.in-Err.r (subst BackFits c.in-Err.is c.requires) in let e = c.unlawful_fields.ensures in omega arith

pub overflow_add-result : goal.overflow_add-result
overflow_add-result c = let l = fields_small c.in-Err.r (subst BackFits c.in-Err.is c.requires) in let e = c.unlawful_fields.ensures in omega arith

pub returns-in-Err : goal.returns-in-Err
returns-in-Err c =
    (λ i. c.from.ensures i + 256 * c.unlawful_fields.ensures i) ∙ ap back_number (sym c.in-Err.is)
