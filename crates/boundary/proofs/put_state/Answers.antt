-- `boundary::put_state`: a loop that writes the domains. Assumes nothing.
use Prim.Native.Nat.{ℕ, ◌+◌, ◌*◌, ◌%◌}
use mathlib.Core.Path.{◌≡◌, sym, ap, ◌∙◌}
use mathlib.Core.List.{List}
use native.Mathlib.Omega.{arith}
use lib.ListN.{length, get_or, take}
use mir.Val.{Fits}
use mir.Syntax.{w32}
use Rattle.buffers.specs.Bytes.{number_bytes, words_bytes}
use Rattle.buffers.specs.Written.{written}
use Rattle.boundary.proofs.Bytes.{state_put}
use Rattle.buffers.proofs.Words.{words_none, words_put}
use borrow.Author.Rules.{rules}
use Rattle.boundary.proofs.put_state.Goals as goal

pub loop-i-init : goal.loop-i-init
loop-i-init c = (search rules, search rules, sym (words_none _ _))

pub loop-i-preserved : goal.loop-i-preserved
loop-i-preserved c =
    let w = c.loop-i in
    let m = c.args.m in
    let b = c.put_word-2.new.b in
    let k : length m.domains ≡ 32 = search rules in
    let l : length b ≡ 68 = search rules in
    let e = c.put_word-in-loop-i.ensures ∙ ap (λ (d : List ℕ). written d (4 + 2 * w.i) (number_bytes 2 (get_or m.domains w.i 0))) w.invariant.2 in
    (omega arith, search rules, e ∙ words_put b m.domains 4 w.i (omega arith) (omega arith))

pub returns : goal.returns
returns c =
    let w = c.loop-i in
    let m = c.args.m in
    let b = c.args.b.now in
    let b₁ = c.put_word.ensures in
    let b₂ = c.put_word-2.ensures in
    let k : length m.domains ≡ 32 = search rules in
    let h : Fits w32 m.active = search rules in
    let i : w.i ≡ 32 = omega arith in
    let b₃ = b₂ ∙ ap (λ (d : List ℕ). written d 2 (number_bytes 2 (m.active % 65536))) b₁ in
    w.invariant.2
    ∙ ap (λ (n : ℕ). written c.put_word-2.new.b 4 (words_bytes (take n m.domains))) i
    ∙ ap (λ (d : List ℕ). written d 4 (words_bytes (take 32 m.domains))) b₃
    ∙ state_put b m c.requires h.fits k
