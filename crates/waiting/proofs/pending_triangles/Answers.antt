-- `waiting::pending_triangles`: the two words of i. Assumes nothing.
use Rattle.waiting.proofs.Words.{triangles_joined}
use Rattle.waiting.proofs.pending_triangles.Goals as goal

pub returns : goal.returns
returns c =
    let low = c.pending_of in
    let high = c.pending_of-2 in
    triangles_joined _ _ low.result high.result _ low.ensures high.ensures c.joined.ensures.is c.joined.ensures.apart
