-- `neighbourhood::neighbourhood_rests`. Assumes nothing.
use Rattle.bounded.proofs.Truth.{T_of}
use Rattle.cover.proofs.Laws.{others_out}
use Rattle.neighbourhood.proofs.Laws.{good_among, candidates_tried}
use Rattle.neighbourhood.proofs.neighbourhood_rests.Goals as goal

pub serving-requires : goal.serving-requires
serving-requires c =
    let p = c.requires in
    let out = others_out c.args.view.state.now.active _ p.0.variable in
    (rw c.without-others.ensures (good_among c.args.view.ready _ _ p.0.variable p.0.value), p.0, rw c.without-rest.ensures out, rw c.without-rest.ensures out, p.0.variable)

pub returns : goal.returns
returns c =
    let p = c.requires in
    let e = rw (c.without-rest.ensures, c.without-others.ensures) at c.serving.ensures in
    candidates_tried c.args.view.ready _ _ p.0.variable p.0.value (T_of p.1) e.is e.shown
