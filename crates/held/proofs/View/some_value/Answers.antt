-- `held::View::some_value`: a domain that is not 0 has a value in it. Assumes nothing.
use Rattle.held.proofs.Laws.{some_word}
use Rattle.held.proofs.View.some_value.Goals as goal

pub returns : goal.returns
returns c = rw (c.has.ensures, ← some_word c.args.self.ready _ c.requires)
