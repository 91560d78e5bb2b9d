-- `cover::third_set`. The check finds this alone; it is here so that the wrong build cover_at_i is refused at its fact. Assumes nothing.
use Rattle.cover.proofs.third_set.Goals as goal

pub returns : goal.returns
returns c = rw (c.without-2.ensures, c.without.ensures)
