-- `start::same_domains`: two lists of 32 words are equal where their words are. Assumes nothing.
use mathlib.Core.Path.{◌≡◌, ap, ◌∙◌}
use mathlib.Core.List.{List}
use Prim.Native.Nat.{ℕ}
use native.Mathlib.Omega.{arith}
use lib.ListN.{length, get_or}
use lib.Pointwise.{bytes_decides}
use lib.Seq.{ext_get_or}
use borrow.Author.Rules.{rules}
use borrow.Author.Tests.{eq-eqb, eqb-true}
use Rattle.bounded.proofs.Truth.{T_ext, T_of, T_true}
use Rattle.bounded.proofs.Loops.{all_each, all_intro}
use Rattle.start.specs.Parts.{same_domains}
use Rattle.start.proofs.same_domains.Goals as goal

pub returns : goal.returns
unfolding same_domains
returns c =
    let x = c.args.x.domains in
    let y = c.args.y.domains in
    let long : length x ≡ 32 = search rules in
    let same : length x ≡ length y = search rules in
    c.eq.ensures ∙ T_ext (
      λ h. T_of (all_intro _ 32 (λ k l. eq-eqb _ _ (ap (λ (z : List ℕ). get_or z k 0) ((bytes_decides x y).0 (T_true _ h))))),
      λ h. T_of ((bytes_decides x y).1 (ext_get_or 0 x y same (λ k l. eqb-true _ _ (all_each _ 32 (T_true _ h) k (omega arith))))),
    )
