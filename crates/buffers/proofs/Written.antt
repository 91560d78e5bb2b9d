-- Laws of a list written over a list, and of one at its front. Assumes nothing.
use mathlib.Core.Path.{◌≡◌, refl, sym, ap, ◌∙◌}
use mathlib.Core.List.{List, [], ◌∷◌, ◌++◌, append_assoc, append-nil}
use Prim.Native.Nat.{ℕ, zero, suc, ◌+◌, ◌-◌, ◌/◌, ◌%◌, ◌^◌, ◌≤◌, ◌<◌}
use native.Mathlib.Nat.{zero-add, add-zero, add_assoc}
use native.Mathlib.Numerals.{add-one}
use native.Mathlib.Omega.{arith}
use lib.ListN.{length, take, drop, set, length-append, length-drop, take-append-drop, drop_of_length-le, get_or-append}
use lib.Seq.{sets, sets-eq, length-take-le, take_at, drop_at, drop-drop, get_or-append-add, get_or-drop}
use Rattle.bounded.specs.Table.{tab}
use Rattle.bounded.proofs.Table.{length_tab}
use Rattle.buffers.specs.Bytes.{byte_at, number_bytes}
use Rattle.buffers.specs.Written.{written, fronted, AtFront}

-- stores one after the other are one list written
pub sets_written : (l : List ℕ) (p : ℕ) (w : List ℕ) → p + length w ≤ length l → sets l p w ≡ written l p w
unfolding written
sets_written l p w h = sets-eq w l p h ∙ append_assoc (take p l) w (drop (p + length w) l)

-- two bytes stored are a word written
pub word_put : (b : List ℕ) (p x : ℕ) → x < 65536 → p + 2 ≤ length b → set (set b p (x / 256)) (p + 1) (x % 256) ≡ written b p (number_bytes 2 x)
word_put b p x l h =
    let e : x / 256 ≡ x / 256 ^ 1 % 256 = omega arith in
    let f : x % 256 ≡ x / 256 ^ 0 % 256 = omega arith in
    (λ i. set (set b p (e i)) (p + 1) (f i)) ∙ ap (λ (k : ℕ). set (set b p (x / 256 ^ 1 % 256)) k (x / 256 ^ 0 % 256)) (add-one p) ∙ sets_written b p (number_bytes 2 x) h

module _ (b : List ℕ) (p : ℕ) where
  pub written_nil : written b p [] ≡ b
  unfolding written
  written_nil = ap (λ (k : ℕ). take p b ++ drop k b) (add-zero p) ∙ take-append-drop p b

  pub written_one : (v : ℕ) → p < length b → set b p v ≡ written b p (v ∷ [])
  written_one v h = sets_written b p (v ∷ []) (omega arith)

  pub length_written : (w : List ℕ) → p + length w ≤ length b → length (written b p w) ≡ length b
  unfolding written
  length_written w h =
      let e : length (take p b) ≡ p = length-take-le p b (omega arith) in
      simp (length-append, length-drop) (omega arith)

  front : (w : List ℕ) → p + length w ≤ length b → length (take p b ++ w) ≡ p + length w
  front w h = length-append (take p b) w ∙ ap (λ (k : ℕ). k + length w) (length-take-le p b (omega arith))

  -- before the end of what was written, and after it
  pub take_written : (w : List ℕ) → p + length w ≤ length b → take (p + length w) (written b p w) ≡ take p b ++ w
  unfolding written
  take_written w h =
      ap (take (p + length w)) (sym (append_assoc (take p b) w (drop (p + length w) b)))
      ∙ take_at (take p b ++ w) (drop (p + length w) b) (p + length w) (front w h)

  pub drop_written : (w : List ℕ) → p + length w ≤ length b → drop (p + length w) (written b p w) ≡ drop (p + length w) b
  unfolding written
  drop_written w h =
      ap (drop (p + length w)) (sym (append_assoc (take p b) w (drop (p + length w) b)))
      ∙ drop_at (take p b ++ w) (drop (p + length w) b) (p + length w) (front w h)

  -- one list and another after it are one list
  pub written_more : (w v : List ℕ) → p + length w ≤ length b → written (written b p w) (p + length w) v ≡ written b p (w ++ v)
  unfolding written
  written_more w v h =
      let e : drop (p + length w + length v) (written b p w) ≡ drop (p + length (w ++ v)) b =
      sym (drop-drop (length v) (p + length w) (written b p w)) ∙ ap (drop (length v)) (drop_written w h) ∙ drop-drop (length v) (p + length w) b
      ∙ ap (λ (k : ℕ). drop k b) (add_assoc p (length w) (length v) ∙ ap (λ (k : ℕ). p + k) (sym (length-append w v))) in
      (λ i. take_written w h i ++ (v ++ e i)) ∙ simp append_assoc

-- a list given by its entries, one more
tab_suc : (f : ℕ → ℕ) (i : ℕ) → tab i f ++ (f i ∷ []) ≡ tab (suc i) f
unfolding tab
tab_suc f zero = refl
tab_suc f (suc i) = ap {B = List ℕ} (λ l. f zero ∷ l) (tab_suc (λ k. f (suc k)) i)

tab_more : (f : ℕ → ℕ) (i : ℕ) → tab i f ++ (f i ∷ []) ≡ tab (i + 1) f
tab_more f i = tab_suc f i ∙ ap (λ (k : ℕ). tab k f) (sym (add-one i))

-- entries written one after the other
pub tab_none : (b : List ℕ) (p : ℕ) (f : ℕ → ℕ) → written b p (tab 0 f) ≡ b
unfolding tab
tab_none b p f = written_nil b p

pub tab_next : (b : List ℕ) (p : ℕ) (f : ℕ → ℕ) (i : ℕ) → p + i < length b → set (written b p (tab i f)) (p + i) (f i) ≡ written b p (tab (i + 1) f)
tab_next b p f i h =
    let l = length_tab i f in
    let m = length_written b p (tab i f) (omega arith) in
    let e : p + i ≡ p + length (tab i f) = omega arith in
    written_one (written b p (tab i f)) (p + i) (f i) (omega arith)
    ∙ ap (λ (k : ℕ). written (written b p (tab i f)) k (f i ∷ [])) e
    ∙ written_more b p (tab i f) (f i ∷ []) (omega arith)
    ∙ ap (written b p) (tab_more f i)

-- a list written over the whole of a list
pub written_all : (b w : List ℕ) → length b ≡ length w → written b 0 w ≡ w
unfolding written
written_all b w e = ap (λ (r : List ℕ). w ++ r) (drop_of_length-le b {i = 0 + length w} (omega arith)) ∙ append-nil w

-- the front of a buffer
pub written_front : (d w : List ℕ) → written d 0 w ≡ fronted w d
unfolding written
written_front d w = ap (λ (k : ℕ). w ++ drop k d) (zero-add (length w))

-- a list after what stands at the front
pub fronted_more : (w v d : List ℕ) → length w + length v ≤ length d → written (fronted w d) (length w) v ≡ fronted (w ++ v) d
fronted_more w v d h =
    ap (λ (l : List ℕ). written l (length w) v) (sym (written_front d w))
    ∙ ap (λ (k : ℕ). written (written d 0 w) k v) (sym (zero-add (length w)))
    ∙ written_more d 0 w v (omega arith)
    ∙ written_front d (w ++ v)

pub length_fronted : (w d : List ℕ) → length w ≤ length d → length (fronted w d) ≡ length d
length_fronted w d h = ap length (sym (written_front d w)) ∙ length_written d 0 w (omega arith)

-- byte by byte
pub fronted_bytes : (w d : List ℕ) → length w ≤ length d → AtFront w d (fronted w d)
fronted_bytes w d h =
    record {
      long = length_fronted w d h;
      front = λ k l. get_or-append w (drop (length w) d) 0 k l;
      rest = λ k l.
          let e : k ≡ length w + (k - length w) = omega arith in
          ap (byte_at (fronted w d)) e ∙ get_or-append-add w (drop (length w) d) (k - length w) 0 ∙ get_or-drop (length w) d (k - length w) 0 ∙ ap (byte_at d) (sym e);
    }
