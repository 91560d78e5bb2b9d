-- Words in bytes: the two bytes of each number of a list, how they are written, and that they are read again. Assumes nothing.
use mathlib.Core.Path.{◌≡◌, refl, sym, ap, ◌∙◌}
use mathlib.Core.List.{List, [], ◌∷◌, ◌++◌}
use Prim.Native.Nat.{ℕ, zero, suc, ◌+◌, ◌*◌, ◌/◌, ◌%◌, ◌^◌, ◌≤◌, ◌<◌}
use native.Mathlib.Nat.{add-zero}
use native.Mathlib.Numerals.{add-one}
use native.Mathlib.Omega.{arith}
use lib.ListN.{length, get_or, take, drop, drop_of_length-le}
use lib.Seq.{take-suc, length-take-le}
use Rattle.bounded.specs.Table.{tab}
use Rattle.buffers.specs.Bytes.{number_at, number_bytes, words_bytes, AreBytes}
use Rattle.buffers.specs.Written.{written}
use Rattle.buffers.proofs.Written.{written_nil, written_more}
use Rattle.buffers.proofs.Stands.{Stands, stands_over, stands_number, number_again}

pub length_words : (l : List ℕ) → length (words_bytes l) ≡ 2 * length l
unfolding words_bytes
length_words [] = refl
length_words (x ∷ l) = let e = length_words l in omega arith

pub words_below : (l : List ℕ) → AreBytes (words_bytes l)
unfolding words_bytes
words_below [] k = omega arith
words_below (x ∷ l) zero = omega arith
words_below (x ∷ l) (suc zero) = omega arith
words_below (x ∷ l) (suc (suc k)) = words_below l k

words_append : (k l : List ℕ) → words_bytes (k ++ l) ≡ words_bytes k ++ words_bytes l
unfolding words_bytes
words_append [] l = refl
words_append (x ∷ k) l = ap (λ (t : List ℕ). number_bytes 2 x ++ t) (words_append k l)

words_one : (x : ℕ) → words_bytes (x ∷ []) ≡ number_bytes 2 x
unfolding words_bytes
words_one x = refl

-- the words up to the one at i, and that one
words_more : (l : List ℕ) (i : ℕ) → i < length l → words_bytes (take (i + 1) l) ≡ words_bytes (take i l) ++ number_bytes 2 (get_or l i 0)
words_more l i h =
    ap (λ (n : ℕ). words_bytes (take n l)) (add-one i)
    ∙ ap words_bytes (take-suc l i 0 h)
    ∙ words_append (take i l) (get_or l i 0 ∷ [])
    ∙ ap (λ (t : List ℕ). words_bytes (take i l) ++ t) (words_one (get_or l i 0))

-- a number of four bytes is two words
pub long_words : (x : ℕ) → x < 2 ^ 32 → number_bytes 2 (x / 65536) ++ number_bytes 2 (x % 65536) ≡ number_bytes 4 x
long_words x h =
    let a : x / 65536 / 256 ^ 1 % 256 ≡ x / 256 ^ 3 % 256 = omega arith in
    let b : x / 65536 / 256 ^ 0 % 256 ≡ x / 256 ^ 2 % 256 = omega arith in
    let c : x % 65536 / 256 ^ 1 % 256 ≡ x / 256 ^ 1 % 256 = omega arith in
    let d : x % 65536 / 256 ^ 0 % 256 ≡ x / 256 ^ 0 % 256 = omega arith in
    λ i. a i ∷ b i ∷ c i ∷ d i ∷ []

-- ---- writing

-- the words from the place p on: none, and one more
pub words_none : (b : List ℕ) (p : ℕ) → written b p (words_bytes []) ≡ b
unfolding words_bytes
words_none b p = written_nil b p

pub words_put : (b d : List ℕ) (p i : ℕ) → i < length d → p + 2 * length d ≤ length b
    → written (written b p (words_bytes (take i d))) (p + 2 * i) (number_bytes 2 (get_or d i 0)) ≡ written b p (words_bytes (take (i + 1) d))
words_put b d p i h l =
    let w = words_bytes (take i d) in
    let e : length (words_bytes (take i d)) ≡ 2 * i = length_words (take i d) ∙ ap (λ (n : ℕ). 2 * n) (length-take-le i d (omega arith)) in
    ap (λ (n : ℕ). written (written b p w) (p + n) (number_bytes 2 (get_or d i 0))) (sym e)
    ∙ written_more b p w (number_bytes 2 (get_or d i 0)) (omega arith)
    ∙ ap (written b p) (sym (words_more d i h))

-- ---- reading

module _ (s : List ℕ) where
  -- where the words from p on are read
  next_word : (p : ℕ) (i : ℕ) → p + 2 + 2 * i ≡ p + 2 * suc i
  next_word p i = omega arith

  -- words that were written are read
  pub stands_words : (l : List ℕ) (p : ℕ) → Stands s p (words_bytes l) → ((i : ℕ) → i < length l → get_or l i 0 < 65536) → tab (length l) (λ i. number_at s 2 (p + 2 * i)) ≡ l
  unfolding words_bytes tab
  stands_words [] p t h = refl
  stands_words (x ∷ l) p t h =
      let n = ap (number_at s 2) (add-zero p) ∙ stands_number s 2 x p (words_bytes l) (h 0 (omega arith)) t in
      let ih = stands_words l (p + 2) (stands_over s p (p + 2) (number_bytes 2 x) (words_bytes l) t refl) (λ i k. h (suc i) (omega arith)) in
      λ k. n k ∷ ((λ j. tab (length l) (λ i. number_at s 2 (sym (next_word p i) j))) ∙ ih) k

  -- words that are read, written again
  pub words_again : AreBytes s → (k p : ℕ) → p + 2 * k ≡ length s → drop p s ≡ words_bytes (tab k (λ i. number_at s 2 (p + 2 * i)))
  unfolding words_bytes tab
  words_again bytes zero p h = drop_of_length-le s {i = p} (omega arith)
  words_again bytes (suc k) p h =
      let ih = words_again bytes k (p + 2) (omega arith) in
      number_again s bytes 2 p (omega arith)
      ∙ (λ j. number_bytes 2 (number_at s 2 (sym (add-zero p) j)) ++ (ih ∙ (λ j. words_bytes (tab k (λ i. number_at s 2 (next_word p i j))))) j)
