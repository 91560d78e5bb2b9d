-- A state's bytes, as they are written. Assumes nothing.
use mathlib.Core.Path.{◌≡◌, ap, ◌∙◌}
use mathlib.Core.List.{List, ◌++◌}
use Prim.Native.Nat.{ℕ, ◌+◌, ◌*◌, ◌/◌, ◌%◌, ◌^◌, ◌<◌}
use native.Mathlib.Omega.{arith}
use lib.ListN.{length, take, length-append}
use lib.Seq.{take_all}
use Rattle.buffers.specs.Bytes.{number_bytes, words_bytes}
use Rattle.buffers.specs.Written.{written}
use Rattle.buffers.proofs.Written.{written_more, written_all}
use Rattle.buffers.proofs.Words.{length_words, long_words}
use Rattle.problem.specs.declared.Masks.{Masks}
use Rattle.boundary.specs.State.{masks_bytes}

-- the two words of the active variables, then the domains: the state
pub state_put : (b : List ℕ) (m : Masks) → length b ≡ 68 → m.active < 2 ^ 32 → length m.domains ≡ 32
    → written (written (written b 0 (number_bytes 2 (m.active / 65536))) 2 (number_bytes 2 (m.active % 65536))) 4 (words_bytes (take 32 m.domains)) ≡ masks_bytes m
unfolding masks_bytes
state_put b m l h k =
    let x = number_bytes 2 (m.active / 65536) in
    let y = number_bytes 2 (m.active % 65536) in
    let w = words_bytes m.domains in
    let e : length (words_bytes m.domains) ≡ 64 = length_words m.domains ∙ ap (λ (n : ℕ). 2 * n) k in
    let f : length (number_bytes 4 m.active ++ words_bytes m.domains) ≡ 68 = length-append (number_bytes 4 m.active) w ∙ ap (λ (n : ℕ). 4 + n) e in
    ap (λ (d : List ℕ). written (written (written b 0 x) 2 y) 4 (words_bytes d)) (take_all 32 m.domains (omega arith))
    ∙ ap (λ (d : List ℕ). written d 4 w) (written_more b 0 x y (omega arith))
    ∙ written_more b 0 (x ++ y) w (omega arith)
    ∙ ap (λ (v : List ℕ). written b 0 (v ++ w)) (long_words m.active h)
    ∙ written_all b (number_bytes 4 m.active ++ w) (omega arith)
