-- `replay::unlawful`. Assumes nothing.
use mathlib.Core.Path.{ap, ◌∙◌}
use Rattle.put_back.specs.PutBack.{unlawful_record}
use Rattle.replay.specs.Walk.{faulty}
use Rattle.replay.proofs.unlawful.Goals as goal

pub returns : goal.returns
returns c = c.fault.ensures ∙ ap faulty (c.unlawful_record.ensures ∙ ap (unlawful_record c.args.count) c.broken_cover.ensures)
