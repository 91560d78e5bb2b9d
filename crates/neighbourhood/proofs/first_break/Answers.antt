-- `neighbourhood::first_break`: the other variables. Assumes nothing.
use Rattle.cover.proofs.Laws.{break_word, others_out}
use Rattle.neighbourhood.proofs.first_break.Goals as goal

pub first_break-requires : goal.first_break-requires
first_break-requires c =
    let p = c.requires in
    let o = others_out c.args.view.state.now.active _ p.0.variable in
    (p.0, p.1, rw c.without.ensures o, rw c.without.ensures o)

pub returns : goal.returns
returns c =
    let p = c.requires in
    rw (c.first_break.ensures, c.without.ensures) (break_word c.args.view.ready _ _ _ p.0.variable)
