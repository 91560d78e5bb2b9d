-- `read_sheet::front`: the cases of a sheet in the order of its tests. Assumes nothing.
use mathlib.Core.Path.{◌≡◌, sym, ap, ◌∙◌}
use mathlib.Core.Bool.{Bool, true, false}
use Prim.Native.Nat.{ℕ}
use Rattle.sheet.specs.Sheet.{layout, version_of, variables_of, bad_sizes, Front}
use Rattle.sheet.proofs.Laws.{sheet_short, sheet_version, sheet_length, sheet_none, sheet_many, sheet_sizes_missing, sheet_sizes, sheet_blocks, good_sizes}
use Rattle.read_sheet.proofs.Fronts.{front_refused, front_good}
use native.Mathlib.Omega.{arith}
use Rattle.read_sheet.proofs.front.Goals as goal
use Rattle.read_sheet.proofs.front.Goals.{After-bad_sizes, After-takes, Else-bad_sizes, Else-not-takes}

-- what the test of the version says
tested : (t : Bool) (c : After-takes) → c.takes.result ≡ t → layout.takes (version_of c.args.s.now) ≡ t
tested t c e = ap layout.takes (sym c.byte.ensures.is) ∙ sym c.takes.ensures ∙ e

version : (c : Else-not-takes) → layout.takes (version_of c.args.s.now) ≡ true
version c = ap layout.takes (sym c.byte.ensures.is) ∙ sym c.takes.ensures ∙ c.if-not-takes.false

-- and that of the sizes
sizes : (t : Bool) (c : After-bad_sizes) → c.bad_sizes.result ≡ t → bad_sizes layout c.args.s.now (variables_of c.args.s.now) 8 ≡ t
sizes t c e = ap (λ (n : ℕ). bad_sizes layout c.args.s.now n 8) (sym c.byte-n.ensures.is) ∙ sym c.bad_sizes.ensures ∙ e

good_front : (c : Else-bad_sizes) → bad_sizes layout c.args.s.now (variables_of c.args.s.now) 8 ≡ false → Front c.args.s.now
good_front c e =
    let s = c.args.s.now in
    let f : c.byte-n.result ≡ 0 → ⊥ = c.if-n-eq0.false in
    record { some = omega arith; few = omega arith; room = omega arith; sizes = good_sizes layout s (variables_of s) 8 e }

pub returns-then-s-lt8 : goal.returns-then-s-lt8
returns-then-s-lt8 c = front_refused _ _ (sheet_short _ _ (omega arith))

pub returns-then-not-takes : goal.returns-then-not-takes
returns-then-not-takes c = front_refused _ _ (sheet_version _ _ (omega arith) (tested false (goal.at.returns-then-not-takes c).After-takes (c.if-not-takes.true)))

pub returns-then-long-s : goal.returns-then-long-s
returns-then-long-s c = front_refused _ _ (sheet_length _ _ (omega arith) (version (goal.at.returns-then-long-s c).Else-not-takes) (λ e. c.if-long-s.true (omega arith)))

pub returns-then-n-eq0 : goal.returns-then-n-eq0
returns-then-n-eq0 c = front_refused _ _ (sheet_none _ _ (omega arith) (version (goal.at.returns-then-n-eq0 c).Else-not-takes) (omega arith) (omega arith))

pub returns-then-n-gt32 : goal.returns-then-n-gt32
returns-then-n-gt32 c = front_refused _ _ (sheet_many _ _ (omega arith) (version (goal.at.returns-then-n-gt32 c).Else-not-takes) (omega arith) (omega arith))

pub returns-then-s-n : goal.returns-then-s-n
returns-then-s-n c =
    let f : c.byte-n.result ≡ 0 → ⊥ = c.if-n-eq0.false in
    front_refused _ _ (sheet_sizes_missing _ _ (omega arith) (version (goal.at.returns-then-s-n c).Else-not-takes) (omega arith) (omega arith) (omega arith) (omega arith))

pub returns-then-bad_sizes : goal.returns-then-bad_sizes
returns-then-bad_sizes c =
    let f : c.byte-n.result ≡ 0 → ⊥ = c.if-n-eq0.false in
    front_refused _ _ (sheet_sizes _ _ (omega arith) (version (goal.at.returns-then-bad_sizes c).Else-not-takes) (omega arith) (omega arith) (omega arith) (omega arith) (sizes true (goal.at.returns-then-bad_sizes c).After-bad_sizes c.if-bad_sizes.true))

pub returns : goal.returns
returns c =
    let e = sizes false (goal.at.returns c).After-bad_sizes c.if-bad_sizes.false in
    let f = good_front (goal.at.returns c).Else-bad_sizes e in
    let s = c.args.s.now in
    front_good s _ _ f
    (sheet_blocks layout s (omega arith) (version (goal.at.returns c).Else-not-takes) (omega arith) f.some f.few f.room e)
