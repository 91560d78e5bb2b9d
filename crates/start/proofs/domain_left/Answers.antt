-- `start::domain_left`. Assumes nothing.
use mathlib.Core.Path.{sym, ◌∙◌}
use Rattle.start.proofs.Sweeps.{emptied_left}
use Rattle.start.proofs.domain_left.Goals as goal

pub supported-requires : goal.supported-requires
supported-requires c = let p = c.requires in (p.1, sym p.0 ∙ c.if-lasts.true)

pub returns-else-lasts : goal.returns-else-lasts
returns-else-lasts c = let p = c.requires in emptied_left _ _ c.args.view.ready.fits (sym p.0 ∙ c.if-lasts.false) _
