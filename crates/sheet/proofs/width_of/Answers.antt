-- `sheet::width_of`: the layout's width, at the version and the size of j.
use mathlib.Core.Path.{ap, ◌∙◌}
use Prim.Native.Nat.{ℕ}
use Rattle.sheet.specs.Sheet.{layout, version_of}
use Rattle.sheet.proofs.width_of.Goals as goal

pub returns : goal.returns
returns c =
    let w = c.row_width.ensures in
    let v = c.byte in
    let z = c.byte-2 in
    record {
      is = w.is ∙ ap (λ (x : ℕ). layout.width x z.result) v.ensures.is ∙ ap (λ (x : ℕ). layout.width (version_of c.args.s.now) x) z.ensures.is;
      some = w.some;
      few = w.few;
    }
