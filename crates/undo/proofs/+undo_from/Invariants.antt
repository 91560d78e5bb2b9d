use Prim.Native.Nat.{◌-◌}
use lib.ListN.{length}
use Rattle.undo.proofs.+undo_from.Given as goal

-- the bytes left
abbrev pub decreases-undo_from : goal.decreases-undo_from
decreases-undo_from l = length l.r.src.now - l.r.at
