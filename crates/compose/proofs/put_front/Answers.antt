-- `compose::put_front`: the stores one after the other are the front. Assumes nothing.
use Rattle.compose.proofs.Writing.{front_stored}
use Rattle.compose.proofs.put_front.Goals as goal

pub returns : goal.returns
returns c = let a = c.args in front_stored a.out.now a.v a.len a.n a.m c.requires.0
