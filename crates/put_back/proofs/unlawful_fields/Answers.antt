-- `boundary::unlawful_fields`: its numbers fit. Assumes nothing.
use mathlib.Core.Path.{sym, ap, subst}
use native.Mathlib.Omega.{arith}
use Rattle.put_back.specs.Call.{unlawful_fields, FieldsFit}
use Rattle.put_back.proofs.unlawful_fields.Goals as goal

pub overflow_mul-result : goal.overflow_mul-result
overflow_mul-result c = let l = subst FieldsFit c.in-Unlawful.is c.requires in omega arith

pub overflow_add-result : goal.overflow_add-result
overflow_add-result c = let l = subst FieldsFit c.in-Unlawful.is c.requires in omega arith

pub overflow_mul-result-in-Unlawful : goal.overflow_mul-result-in-Unlawful
overflow_mul-result-in-Unlawful c = let l = subst FieldsFit c.in-Unlawful.is c.requires in omega arith

pub overflow_add-result-in-Unlawful : goal.overflow_add-result-in-Unlawful
overflow_add-result-in-Unlawful c = let l = subst FieldsFit c.in-Unlawful.is c.requires in omega arith

pub returns-in-Unlawful : goal.returns-in-Unlawful
returns-in-Unlawful c = sym (ap unlawful_fields c.in-Unlawful.is)
