-- `hand_call::is_active`: no bit is set from 32 on. Assumes nothing.
use mathlib.Core.Path.{sym}
use Prim.Native.Nat.{◌<◌, ◌^◌}
use Rattle.bounded.proofs.Mask.{bit_high}
use borrow.Author.Rules.{rules}
use Rattle.hand_call.proofs.is_active.Goals as goal

pub returns-else-i-lt32 : goal.returns-else-i-lt32
returns-else-i-lt32 c =
    let l : c.args.m.active < 2 ^ 32 = search rules in
    sym (bit_high 32 _ _ l c.if-i-lt32.false)
