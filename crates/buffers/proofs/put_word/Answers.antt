-- `buffers::put_word`: two bytes stored are a word written. Assumes nothing.
use native.Mathlib.Omega.{arith}
use lib.ListN.{length-set}
use Rattle.buffers.proofs.Written.{word_put}
use Rattle.buffers.proofs.put_word.Goals as goal

pub bounds-b-at-2 : goal.bounds-b-at-2
bounds-b-at-2 c = simp length-set (omega arith)

pub returns : goal.returns
returns c = word_put c.args.b.now c.args.at c.args.x (omega arith) c.requires
