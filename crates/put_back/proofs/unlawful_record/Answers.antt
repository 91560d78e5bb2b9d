-- `put_back::unlawful_record`. Assumes nothing.
use mathlib.Core.Path.{sym, ap}
use Rattle.put_back.specs.PutBack.{unlawful_record}
use Rattle.put_back.proofs.unlawful_record.Goals as goal

pub returns-in-Some : goal.returns-in-Some
returns-in-Some c = sym (ap (unlawful_record c.args.number) c.in-Some.is)

pub returns-in-None : goal.returns-in-None
returns-in-None c = sym (ap (unlawful_record c.args.number) c.in-None.is)
