-- What is found at a place of the file, and the line that it makes. Assumes nothing.
use mathlib.Core.Path.{◌≡◌, refl, sym, ap, ◌∙◌}
use mathlib.Core.Bool.{true, false}
use mathlib.Core.List.{List}
use mathlib.Core.Logic.{inl, inr, ◌≢◌}
use Prim.Native.Nat.{ℕ, suc, ◌+◌}
use native.Mathlib.Omega.{arith}
use lib.ListN.{length, drop, get_or, length-drop}
use lib.Seq.{get_or-drop, drop-drop}
use Rattle.bounded.proofs.Truth.{clash}
use Rattle.graph.specs.Graph.{decimal_of, line_fields, two_numbers, line_of, begins, comment_word, size_word, edge_word}
use Rattle.graph.specs.Scan.{line_in, digits_in}
use Rattle.graph.specs.declared.Line.{Line}
use Rattle.graph.specs.declared.Line.TheVariants.{Comment, Size, Edge, Bad}
use Rattle.graph.proofs.Fields.{two_bad_count, two_bad_space, two_bad_second, two_bad_end, two_good, two_length}
use Rattle.graph.proofs.Lines.{begins_long}
use Rattle.graph.proofs.Forms.{is_comment, is_size_lem, is_edge, is_none, begins_other, begins_comment, begins_edge, begins_no_edge}
use Rattle.graph.specs.declared.TurnedAway.{TurnedAway}
use Rattle.read_graph.specs.Parts.{Place, digit_run, NumberAt, FieldAt, After, Found, PairAt, Other, LineAt}
use Rattle.read_graph.specs.declared.Pair.{Pair}
use Rattle.read_graph.specs.declared.LineRead.{LineRead}
use Rattle.std.specs.Prelude.{None, Result, Ok, Err, IsErr}
use Rattle.read_graph.proofs.Laws.{byte_within}

-- ---- fields

-- the byte after the digits, by its place in the file
pub sep_at : (f : List ℕ) (p q : ℕ) → q ≡ p + length (digit_run f p) → get_or (drop p f) (length (digit_run f p)) 10 ≡ get_or f q 10
sep_at f p q e = get_or-drop p f (length (digit_run f p)) 10 ∙ ap (λ (n : ℕ). get_or f n 10) (sym e)

module _ (f : List ℕ) (p a q : ℕ) (N : NumberAt f p 32 a q) where
  -- the place after a number and its space
  rest : drop (suc (length (digit_run f p))) (drop p f) ≡ drop q f
  rest =
      let e = N.next in
      let g : p + suc (length (digit_run f p)) ≡ q = omega arith in
      drop-drop (suc (length (digit_run f p))) p f ∙ ap (λ (n : ℕ). drop n f) g

  pub number_place : Place f p → Place f q
  number_place P =
      let e = N.next in
      let s = N.ends in
      let d = get_or-drop p f (length (digit_run f p)) 10 in
      let h = byte_within f (p + length (digit_run f p)) (λ z. let y : ◌≡◌ {A = ℕ} 10 32 = sym z ∙ sym d ∙ s in omega arith) in
      record { short = P.short; within = omega arith }

  -- a second number that ends the line, or none
  pub pair_second : (form : ℕ → ℕ → Line) → FieldAt f q 10 None → two_numbers form (line_fields (line_in (drop p f))) ≡ Bad
  pair_second form (inl h) = two_bad_second form (drop p f) N.ends (rw rest h)
  pair_second form (inr h) = two_bad_end form (drop p f) N.ends (rw rest h)

  pub pair_both : (form : ℕ → ℕ → Line) (b n : ℕ) → NumberAt f q 10 b n → (two_numbers form (line_fields (line_in (drop p f))) ≡ form a b) × After f p n
  pair_both form b n M =
      let g = two_good form (drop p f) (record { some = N.some; few = N.few }) N.ends (rw rest (record { some = M.some; few = M.few })) (rw rest M.ends) in
      let l = two_length (drop p f) N.ends (rw rest M.ends) in
      let e = N.next in
      let m = M.next in
      let v : form a b ≡ form (decimal_of (digit_run f p)) (decimal_of (digit_run f q)) = λ i. form (N.value i) (M.value i) in
      let k : length (digits_in 10 (drop (suc (length (digit_run f p))) (drop p f))) ≡ length (digit_run f q) = ap (λ (x : List ℕ). length (digits_in 10 x)) rest in
      (g ∙ ap (λ (x : List ℕ). form (decimal_of (digit_run f p)) (decimal_of (digits_in 10 x))) rest ∙ sym v, omega arith)

pub pair_first : (f : List ℕ) (p : ℕ) (form : ℕ → ℕ → Line) → FieldAt f p 32 None → two_numbers form (line_fields (line_in (drop p f))) ≡ Bad
pair_first f p form (inl h) = two_bad_count form (drop p f) h
pair_first f p form (inr h) = two_bad_space form (drop p f) h

-- no two numbers
pub pair_none : (f : List ℕ) (p : ℕ) (r : Result Pair TurnedAway) → IsErr r → ((form : ℕ → ℕ → Line) → two_numbers form (line_fields (line_in (drop p f))) ≡ Bad) → PairAt f p r
pair_none f p (Ok r) e b = absurd (clash {b = false} e refl)
pair_none f p (Err x) e b = b

-- ---- lines

-- nothing is found of a bad line
pub found_none : (f : List ℕ) (p : ℕ) (l : Line) (r : Result LineRead TurnedAway) → IsErr r → l ≡ Bad → Found f p l r
found_none f p l (Ok r) e b = absurd (clash {b = false} e refl)
found_none f p l (Err x) e b = b

-- a byte of what is left, by its place in the file
byte_left : (f : List ℕ) (p k : ℕ) → get_or (drop p f) k 10 ≡ get_or f (p + k) 10
byte_left f p k = get_or-drop p f k 10

first_left : (f : List ℕ) (p : ℕ) → get_or (drop p f) 0 10 ≡ get_or f p 10
first_left f p = byte_left f p 0 ∙ ap (λ (n : ℕ). get_or f n 10) (let q : p + 0 ≡ p = omega arith in q)

pub comment_here : (f : List ℕ) (p n : ℕ) → get_or f p 10 ≡ 99 → After f p n → LineAt f p (Ok (record { line = Comment; next = n }))
comment_here f p n e a = (sym (is_comment (drop p f) (begins_comment (drop p f) (first_left f p ∙ e))), a)

module _ (f : List ℕ) (p : ℕ) (e : get_or f p 10 ≡ 101) where
  no_comment : begins comment_word (drop p f) ≡ false
  no_comment = begins_other 99 _ (drop p f) (λ z. let y = sym (first_left f p) ∙ z in omega arith)

  no_size : begins size_word (drop p f) ≡ false
  no_size = begins_other 112 _ (drop p f) (λ z. let y = sym (first_left f p) ∙ z in omega arith)

  pub edge_bad : get_or f (p + 1) 10 ≢ 32 → line_of (line_in (drop p f)) ≡ Bad
  edge_bad n = is_none (drop p f) no_comment no_size (begins_no_edge (drop p f) (λ z. n (sym (byte_left f p 1) ∙ z)))

  -- its numbers, and its length counted from them
  pub edge_here : get_or f (p + 1) 10 ≡ 32 → (line_of (line_in (drop p f)) ≡ two_numbers Edge (line_fields (line_in (drop (p + 2) f)))) × (length (line_in (drop p f)) ≡ 2 + length (line_in (drop (p + 2) f)))
  edge_here s =
      let w = is_edge (drop p f) no_comment no_size (begins_edge (drop p f) (first_left f p ∙ e) (byte_left f p 1 ∙ s)) in
      let d : drop 2 (drop p f) ≡ drop (p + 2) f = drop-drop 2 p f in
      (w.0 ∙ ap (λ (x : List ℕ). two_numbers Edge (line_fields (line_in x))) d, w.1 ∙ ap (λ (x : List ℕ). 2 + length (line_in x)) d)

module _ (f : List ℕ) (p : ℕ) (O : Other f p) where
  other_comment : begins comment_word (drop p f) ≡ false
  other_comment = begins_other 99 _ (drop p f) (λ z. O.comment (sym (first_left f p) ∙ z))

  other_edge : begins edge_word (drop p f) ≡ false
  other_edge = begins_other 101 _ (drop p f) (λ z. O.edge (sym (first_left f p) ∙ z))

  pub size_bad : begins size_word (drop p f) ≡ false → line_of (line_in (drop p f)) ≡ Bad
  size_bad b = is_none (drop p f) other_comment b other_edge

  pub size_here : begins size_word (drop p f) ≡ true → (line_of (line_in (drop p f)) ≡ two_numbers Size (line_fields (line_in (drop (p + 7) f)))) × (length (line_in (drop p f)) ≡ 7 + length (line_in (drop (p + 7) f)))
  size_here b =
      let w = is_size_lem (drop p f) other_comment b in
      let d : drop 7 (drop p f) ≡ drop (p + 7) f = drop-drop 7 p f in
      (w.0 ∙ ap (λ (x : List ℕ). two_numbers Size (line_fields (line_in x))) d, w.1 ∙ ap (λ (x : List ℕ). 7 + length (line_in x)) d)

-- a word that stands at a place is within the file
pub word_place : (f w : List ℕ) (p : ℕ) → Place f p → begins w (drop p f) ≡ true → Place f (p + length w)
word_place f w p P b = let l = begins_long w (drop p f) b in let d = length-drop p f in let h = P.within in record { short = P.short; within = omega arith }
