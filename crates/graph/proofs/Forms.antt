-- The three forms of a line, told by the bytes that it begins with. Assumes nothing.
use mathlib.Core.Path.{◌≡◌, refl, sym, ap, ◌∙◌}
use mathlib.Core.Bool.{true, false, and-false}
use mathlib.Core.List.{List, [], ◌∷◌}
use mathlib.Core.Logic.{◌≢◌}
use Prim.Native.Nat.{ℕ, ◌+◌}
use native.Mathlib.Omega.{arith}
use lib.Dec.{eqb}
use lib.ListN.{length, drop, get_or}
use borrow.Author.Tests.{eq-eqb, ne_eqb}
use Rattle.graph.specs.Graph.{begins, comment_word, size_word, edge_word, line_fields, two_numbers, line_of}
use Rattle.graph.specs.Scan.{line_in}
use Rattle.graph.specs.declared.Line.TheVariants.{Comment, Size, Edge, Bad}
use Rattle.graph.proofs.Lines.{begins_line, drop_line}

-- ---- by words

module _ (r : List ℕ) where
  comment_line : begins comment_word (line_in r) ≡ begins comment_word r
  comment_line = begins_line comment_word r (refl, tt)

  size_line : begins size_word (line_in r) ≡ begins size_word r
  size_line = begins_line size_word r (refl, (refl, (refl, (refl, (refl, (refl, (refl, tt)))))))

  edge_line : begins edge_word (line_in r) ≡ begins edge_word r
  edge_line = begins_line edge_word r (refl, (refl, tt))

  pub is_comment : begins comment_word r ≡ true → line_of (line_in r) ≡ Comment
  unfolding line_of
  is_comment e = let c = comment_line ∙ e in rw (c, line_of)

  pub is_size_lem : begins comment_word r ≡ false → begins size_word r ≡ true
      → (line_of (line_in r) ≡ two_numbers Size (line_fields (line_in (drop 7 r)))) × (length (line_in r) ≡ 7 + length (line_in (drop 7 r)))
  unfolding line_of
  is_size_lem e f =
      let c = comment_line ∙ e in
      let s = size_line ∙ f in
      let d = drop_line size_word r (refl, (refl, (refl, (refl, (refl, (refl, (refl, tt))))))) f in
      (rw (c, line_of) (rw (s, line_of) (ap (λ (l : List ℕ). two_numbers Size (line_fields l)) d.0)), d.1)

  pub is_edge : begins comment_word r ≡ false → begins size_word r ≡ false → begins edge_word r ≡ true
      → (line_of (line_in r) ≡ two_numbers Edge (line_fields (line_in (drop 2 r)))) × (length (line_in r) ≡ 2 + length (line_in (drop 2 r)))
  unfolding line_of
  is_edge e f g =
      let c = comment_line ∙ e in
      let s = size_line ∙ f in
      let t = edge_line ∙ g in
      let d = drop_line edge_word r (refl, (refl, tt)) g in
      (rw (c, line_of) (rw (s, line_of) (rw (t, line_of) (ap (λ (l : List ℕ). two_numbers Edge (line_fields l)) d.0))), d.1)

  pub is_none : begins comment_word r ≡ false → begins size_word r ≡ false → begins edge_word r ≡ false → line_of (line_in r) ≡ Bad
  unfolding line_of
  is_none e f g =
      let c = comment_line ∙ e in
      let s = size_line ∙ f in
      let t = edge_line ∙ g in
      rw (c, line_of) (rw (s, line_of) (rw (t, line_of)))

-- ---- by bytes; past the end stands a newline

pub begins_other : (x : ℕ) (w r : List ℕ) → get_or r 0 10 ≢ x → begins (x ∷ w) r ≡ false
unfolding begins
begins_other x w [] n = refl
begins_other x w (y ∷ r) n = rw (ne_eqb x y (λ e. n (sym e)))

pub begins_comment : (r : List ℕ) → get_or r 0 10 ≡ 99 → begins comment_word r ≡ true
unfolding begins
begins_comment [] e = absurd (omega arith)
begins_comment (y ∷ r) e = rw (eq-eqb 99 y (sym e))

pub begins_edge : (r : List ℕ) → get_or r 0 10 ≡ 101 → get_or r 1 10 ≡ 32 → begins edge_word r ≡ true
unfolding begins
begins_edge [] e f = absurd (omega arith)
begins_edge (x ∷ []) e f = absurd (omega arith)
begins_edge (x ∷ y ∷ r) e f = rw (eq-eqb 101 x (sym e), eq-eqb 32 y (sym f))

pub begins_no_edge : (r : List ℕ) → get_or r 1 10 ≢ 32 → begins edge_word r ≡ false
unfolding begins
begins_no_edge [] n = refl
begins_no_edge (x ∷ []) n = and-false (eqb 101 x)
begins_no_edge (x ∷ y ∷ r) n = rw (ne_eqb 32 y (λ e. n (sym e)), and-false (eqb 101 x))
