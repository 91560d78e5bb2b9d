-- `unsupported::unsupported_at`: no common member of two words. Assumes nothing.
use Rattle.held.proofs.Laws.{domain_values}
use Rattle.unsupported.proofs.Laws.{unsupported_word}
use Rattle.unsupported.proofs.unsupported_at.Goals as goal

pub row_among-requires : goal.row_among-requires
row_among-requires c = let p = c.requires in (c.args.view.ready.table, domain_values c.args.view.ready _ p.1, p.0, p.1, p.2)

pub returns : goal.returns
returns c =
    let p = c.requires in
    rw c.row_among.ensures (unsupported_word c.args.view.ready _ _ _ p.1)
