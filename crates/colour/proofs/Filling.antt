-- The table of a colouring problem, filled edge by edge. Assumes nothing.
use mathlib.Core.Path.{◌≡◌, refl, sym, ap, ◌∙◌, subst}
use mathlib.Core.Bool.{Bool, true, false, not, cond, ◌&&◌, and-false}
use mathlib.Core.List.{List}
use mathlib.Core.Logic.{◌⊎◌, inl, inr, ⊎_elim, ◌≢◌}
use Prim.Native.Nat.{ℕ, ◌-◌, ◌*◌, ◌^◌, ◌≤◌, ◌<◌}
use native.Mathlib.Omega.{arith}
use lib.Dec.{T, eqb, ltb}
use lib.ListN.{get_or}
use borrow.Author.Tests.{lt-ltb, le-ltb}
use Rattle.bounded.specs.Mask.{bit, without}
use Rattle.bounded.proofs.Truth.{T_ext, T_not, eqb_iff, lt_dec}
use Rattle.bounded.proofs.Mask.{full_bit, bit_without16}
use Rattle.bounded.proofs.Table.{get_d_tab}
use Rattle.problem.specs.Problem.{both_ways}
use Rattle.problem.specs.Held.{Bounded, Filled}
use Rattle.problem.proofs.BothWays.{both_up, both_down, both_same}
use Rattle.graph.specs.Colouring.{channels_at, is_channel, may_stand, colouring}
use Rattle.graph.specs.Scan.{is_marked}
use Rattle.table.specs.Parts.{Wrote, HasPlaces}
use Rattle.table.specs.Filling.{pair_says, EnteredTo}
use Rattle.table.proofs.Filling.{entered_filled}
use Rattle.colour.specs.Parts.{marked_problem, Ranged, entry_size, edge_rows}

-- ---- what a colouring problem allows

module _ (v k : ℕ) (joined : ℕ → ℕ → Bool) where
  is_channel_lem : (i a : ℕ) → i < v → a < k → is_channel v k joined i a ≡ true
  unfolding is_channel
  is_channel_lem i a h l = simp (lt-ltb i v h, lt-ltb a k l)

  no_vertex : (i a : ℕ) → v ≤ i → is_channel v k joined i a ≡ false
  unfolding is_channel
  no_vertex i a h = simp (le-ltb i v h)

  no_channel : (i a : ℕ) → k ≤ a → is_channel v k joined i a ≡ false
  unfolding is_channel
  no_channel i a h = simp (le-ltb a k h, and-false)

  -- a test that a channel of one side fails
  none_first : (i a j b : ℕ) → is_channel v k joined i a ≡ false → may_stand v k joined i a j b ≡ false
  unfolding may_stand
  none_first i a j b e = rw e

  none_second : (i a j b : ℕ) → is_channel v k joined j b ≡ false → may_stand v k joined i a j b ≡ false
  unfolding may_stand
  none_second i a j b e = rw (e, and-false (is_channel v k joined i a))

  none_either : (i a j b : ℕ) → is_channel v k joined i a ≡ false → both_ways (may_stand v k joined) i a j b ≡ false
  none_either i a j b e = go (lt_dec i j) (lt_dec j i)
    where
      go : (i < j) ⊎ (j ≤ i) → (j < i) ⊎ (i ≤ j) → both_ways (may_stand v k joined) i a j b ≡ false
      go (inl h) y = both_up (may_stand v k joined) i a j b h ∙ none_first i a j b e
      go (inr h) (inl l) = both_down (may_stand v k joined) i a j b l ∙ none_second j b i a e
      go (inr h) (inr l) = both_same (may_stand v k joined) i a j b (omega arith)

  -- two channels of two different vertices: the edge between them tells
  module _ (i a j b : ℕ) (hi : i < v) (ha : a < k) (hj : j < v) (hb : b < k) where
    stands : may_stand v k joined i a j b ≡ not (joined i j && eqb a b)
    unfolding may_stand
    stands = rw (is_channel_lem i a hi ha, is_channel_lem j b hj hb)

-- the lower vertex's side of a pair tells
abbrev pub joined_pair : (ℕ → ℕ → Bool) → (i j : ℕ) → Bool
joined_pair joined i j = cond (ltb i j) (joined i j) (joined j i)

module _ (v k : ℕ) (joined : ℕ → ℕ → Bool) where
  pub allows : (i a j b : ℕ) → i < v → a < k → j < v → b < k → i ≢ j → (colouring v k joined).allowed i a j b ≡ not (joined_pair joined i j && eqb b a)
  unfolding colouring
  allows i a j b hi ha hj hb d = go (lt_dec i j)
    where
      swap : eqb a b ≡ eqb b a
      swap = T_ext (λ t. (eqb_iff b a).1 (sym ((eqb_iff a b).0 t)), λ t. (eqb_iff a b).1 (sym ((eqb_iff b a).0 t)))

      go : (i < j) ⊎ (j ≤ i) → both_ways (may_stand v k joined) i a j b ≡ not (joined_pair joined i j && eqb b a)
      go (inl h) = both_up (may_stand v k joined) i a j b h ∙ stands v k joined i a j b hi ha hj hb ∙ ap (λ (t : Bool). not (joined i j && t)) swap ∙ rw (lt-ltb i j h)
      go (inr h) = both_down (may_stand v k joined) i a j b (let n : i ≡ j → ⊥ = d in omega arith) ∙ stands v k joined j b i a hj hb hi ha ∙ rw (le-ltb i j h)

  -- nothing else is allowed
  pub allows_none : (i a j b : ℕ) → (v ≤ i) ⊎ (k ≤ a) → (colouring v k joined).allowed i a j b ≡ false
  unfolding colouring
  allows_none i a j b (inl h) = none_either v k joined i a j b (no_vertex v k joined i a h)
  allows_none i a j b (inr h) = none_either v k joined i a j b (no_channel v k joined i a h)

  pub allows_same : (i a b : ℕ) → (colouring v k joined).allowed i a i b ≡ false
  unfolding colouring
  allows_same i a b = both_same (may_stand v k joined) i a i b refl

  pub colouring_size : (i : ℕ) → (colouring v k joined).size i ≡ cond (ltb i v) k 0
  unfolding colouring channels_at
  colouring_size i = refl

  pub colouring_vertices : (colouring v k joined).n ≡ v
  unfolding colouring
  colouring_vertices = refl

  size_in : (i : ℕ) → i < v → (colouring v k joined).size i ≡ k
  size_in i h = colouring_size i ∙ rw (lt-ltb i v h)

  -- what is allowed is a channel of a vertex
  allowed_in : (i a j b : ℕ) → T ((colouring v k joined).allowed i a j b) → (i < v) × (a < k)
  allowed_in i a j b t = (
    ⊎_elim (λ (h : i < v). h) (λ (h : v ≤ i). absurd (T_not (allows_none i a j b (inl h)) t)) (lt_dec i v),
    ⊎_elim (λ (h : a < k). h) (λ (h : k ≤ a). absurd (T_not (allows_none i a j b (inr h)) t)) (lt_dec a k),
  )

  allowed_apart : (i a j b : ℕ) → T ((colouring v k joined).allowed i a j b) → i ≢ j
  allowed_apart i a j b t e = T_not (ap (λ (x : ℕ). (colouring v k joined).allowed x a j b) e ∙ allows_same j a b) t

  -- a table can hold it
  pub colouring_bounded : v ≤ 32 → 1 ≤ k → k ≤ 16 → Bounded (colouring v k joined)
  unfolding colouring
  colouring_bounded few some narrow = record {
    few = few;
    some = λ i h. rw (colouring_size i, lt-ltb i v h) some;
    narrow = λ i. ⊎_elim (λ (h : i < v). rw (colouring_size i, lt-ltb i v h) narrow) (λ (h : v ≤ i). rw (colouring_size i, le-ltb i v h) (omega arith)) (lt_dec i v);
    none = λ i h. colouring_size i ∙ rw (le-ltb i v h);
    listed = λ i a j b t.
        let p = allowed_in i a j b t in
        let q = allowed_in j b i a (subst T ((colouring v k joined).symmetric i a j b) t) in
        (p.0, rw (size_in i p.0) p.1, q.0, rw (size_in j q.0) q.1, allowed_apart i a j b t);
  }

-- ---- the table filled

-- the rows of an edge, and the absence of a block, say what the problem allows
edge_says : (m : Bool) (k a b : ℕ) → k ≤ 16 → a < k → b < k → cond m (bit (get_or (edge_rows k) a 0) b) true ≡ not (m && eqb b a)
unfolding edge_rows
edge_says true k a b h la lb =
    ap (λ (x : ℕ). bit x b) (get_d_tab 16 (λ a. without 16 (2 ^ k - 1) a) a 0 (omega arith))
    ∙ bit_without16 (2 ^ k - 1) a b (omega arith) (omega arith)
    ∙ ap (λ (t : Bool). t && not (eqb b a)) (full_bit k b lb)
edge_says false k a b h la lb = refl

module _ (near : List ℕ) (n k : ℕ) (R : Ranged near n k) (some : 1 ≤ k) where
  pub marked_bounded : Bounded (marked_problem near n k)
  marked_bounded = colouring_bounded n k (is_marked near) R.vertices some R.channels

  says : (i j : ℕ) → i < j → j < n → (a b : ℕ) → a < (marked_problem near n k).size i → b < (marked_problem near n k).size j
      → pair_says (is_marked near) (λ i j. edge_rows k) i j a b ≡ (marked_problem near n k).allowed i a j b
  says i j l m a b sa sb =
      let la : a < k = rw (size_in n k (is_marked near) i (omega arith)) at sa in
      let lb : b < k = rw (size_in n k (is_marked near) j m) at sb in
      let e : joined_pair (is_marked near) i j ≡ is_marked near i j = rw (lt-ltb i j l) in
      edge_says (is_marked near i j) k a b R.channels la lb
      ∙ sym (allows n k (is_marked near) i a j b (omega arith) la m lb (λ e. absurd (omega arith)) ∙ ap (λ (g : Bool). not (g && eqb b a)) e)

  pub marked_filled : (t t₁ t₂ rows u : List ℕ) → Wrote 32 t t₁ 0 (entry_size n k) → HasPlaces t₁ t₂ → rows ≡ edge_rows k
      → EnteredTo (is_marked near) (λ i j. rows) n (32 * n) t₂ u → Filled (marked_problem near n k) u
  unfolding colouring
  marked_filled t t₁ t₂ rows u w h e E =
      entered_filled (is_marked near) (λ i j. edge_rows k) t t₁ t₂ u (entry_size n k) marked_bounded w (λ i l. sym (colouring_size n k (is_marked near) i)) h
      (subst (λ (r : List ℕ). EnteredTo (is_marked near) (λ i j. r) n (32 * n) t₂ u) e E) says
