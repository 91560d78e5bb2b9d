-- Texts one after the other. Assumes nothing.
use mathlib.Core.Path.{◌≡◌, sym, ap, ◌∙◌, subst}
use mathlib.Core.List.{List, ◌++◌, append_assoc}
use Prim.Native.Nat.{ℕ, ◌+◌, ◌≤◌, ◌<◌}
use native.Mathlib.Omega.{arith}
use lib.ListN.{length, take, drop, set, get_or, length-append}
use lib.Seq.{paste, paste-zero, paste-suc, take-length}
use native.Mathlib.Numerals.{add-one}
use Rattle.buffers.specs.Written.{written}
use Rattle.buffers.proofs.Written.{written_more}

-- w is written at p, and q is the place after it
abbrev pub Puts : List ℕ → ℕ → List ℕ → List ℕ → ℕ → Type 0
Puts b p w b' q = (b' ≡ written b p w) × (q ≡ p + length w)

-- a text, said otherwise
pub same_text : (b b' : List ℕ) (p q : ℕ) (w v : List ℕ) → w ≡ v → Puts b p w b' q → Puts b p v b' q
same_text b b' p q w v e f = subst (λ (u : List ℕ). Puts b p u b' q) e f

-- a text, and another at the place after it
pub after : (b b' b'' : List ℕ) (p q r : ℕ) (w v : List ℕ) → Puts b p w b' q → Puts b' q v b'' r → q ≤ length b → Puts b p (w ++ v) b'' r
after b b' b'' p q r w v f g h =
    let e : written b' q v ≡ written (written b p w) (p + length w) v = λ i. written (f.0 i) (f.1 i) v in
    let l = length-append w v in
    (g.0 ∙ e ∙ written_more b p w v (omega arith), omega arith)

pub paste_start : (d : List ℕ) (at : ℕ) (s : List ℕ) → d ≡ paste d at s 0
paste_start d at s = paste-zero d at s

pub paste_turn : (d b : List ℕ) (at : ℕ) (s : List ℕ) (j : ℕ) → at + j < length d → j < length s → b ≡ paste d at s j
    → set b (at + j) (get_or s j 0) ≡ paste d at s (j + 1)
paste_turn d b at s j h l e =
    ap (λ (x : List ℕ). set x (at + j) (get_or s j 0)) e ∙ paste-suc d at s j 0 h l ∙ ap (paste d at s) (sym (add-one j))

pub paste_end : (d b : List ℕ) (at : ℕ) (s : List ℕ) (j : ℕ) → j ≡ length s → b ≡ paste d at s j → Puts d at s b (at + j)
unfolding written
paste_end d b at s j h e =
    let n : paste d at s j ≡ (take at d ++ s) ++ drop (at + length s) d = ap (paste d at s) h ∙ ap (λ (x : List ℕ). (take at d ++ x) ++ drop (at + length s) d) (take-length s) in
    (e ∙ n ∙ append_assoc (take at d) s (drop (at + length s) d), ap (λ (k : ℕ). at + k) h)
