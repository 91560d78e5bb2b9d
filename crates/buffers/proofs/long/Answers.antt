-- `buffers::long`: the third and the fourth byte stand two places on.
use mathlib.Core.Path.{◌≡◌, ap}
use Prim.Native.Nat.{◌+◌}
use Rattle.buffers.specs.Bytes.{byte_at}
use native.Mathlib.Omega.{arith}
use Rattle.buffers.proofs.long.Goals as goal

pub returns : goal.returns
returns c =
    let k = c.args.k in
    let s = c.args.s.now in
    let p : k + 1 + 1 ≡ k + 2 = omega arith in
    let q : k + 1 + 1 + 1 ≡ k + 2 + 1 = omega arith in
    let e = ap (byte_at s) p in
    let f = ap (byte_at s) q in
    record { is = omega arith; below = omega arith }
