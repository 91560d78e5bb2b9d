-- `read_sheet::in_order`.
use borrow.Author.Tests.{lt-ltb, le-ltb}
use Prim.Native.Nat.{◌≤◌, ◌<◌}
use Rattle.sheet.specs.Sheet.{variables_of}
use native.Mathlib.Omega.{arith}
use Rattle.read_sheet.proofs.in_order.Goals as goal

pub byte-requires : goal.byte-requires
byte-requires c = let r = c.requires.room in omega arith

pub returns-then-j-byte : goal.returns-then-j-byte
returns-then-j-byte c = let h : c.args.j < variables_of c.args.s.now = omega arith in simp (lt-ltb _ _ c.if-i-j.true, lt-ltb _ _ h)

pub returns-else-j-byte : goal.returns-else-j-byte
returns-else-j-byte c = let h : variables_of c.args.s.now ≤ c.args.j = omega arith in simp (lt-ltb _ _ c.if-i-j.true, le-ltb _ _ h)

pub returns-else-i-j : goal.returns-else-i-j
returns-else-i-j c = simp (le-ltb _ _ c.if-i-j.false)
