-- A table filled place by place: nothing is entered, one place more, and all of a problem's. Assumes nothing.
use mathlib.Core.Path.{◌≡◌, refl, sym, ◌∙◌, subst}
use mathlib.Core.Bool.{Bool, true, false, cond}
use mathlib.Core.List.{List}
use mathlib.Core.Logic.{⊎_elim}
use Prim.Native.Nat.{ℕ, ◌+◌, ◌*◌, ◌/◌, ◌%◌, ◌≤◌, ◌<◌}
use native.Mathlib.Omega.{arith}
use lib.Dec.{ltb}
use lib.ListN.{get_or}
use borrow.Author.Tests.{lt-ltb, ltb-true}
use Rattle.bounded.specs.Mask.{bit}
use Rattle.bounded.proofs.Truth.{lt_dec, split, both}
use Rattle.problem.specs.Problem.{Problem}
use Rattle.problem.specs.Held.{Bounded, Filled}
use Rattle.problem.specs.Filling.{Shows, Entered}
use Rattle.problem.proofs.Filling.{entered_located, filled_pairs}
use Rattle.table.specs.Parts.{Wrote, HasPlaces, Blank}
use Rattle.table.specs.Filling.{block_here, pair_says, PlaceEntered, EnteredTo}
use Rattle.table.proofs.Blank.{blank_shows}

module _ (has : ℕ → ℕ → Bool) (says : ℕ → ℕ → List ℕ) (n : ℕ) where
  -- the sizes and the list of places stand, and no block
  pub none_entered : (t t₁ t₂ : List ℕ) (f : ℕ → ℕ) → Blank t → Wrote 32 t t₁ 0 f → HasPlaces t₁ t₂ → EnteredTo has says n 0 t₂ t₂
  none_entered t t₁ t₂ f blank w h =
      record {
        located = h.located;
        sizes = λ q l. refl;
        below = λ i j p q l. absurd (omega arith);
        above = λ i j p q l. blank_shows t₂ (λ k lo hi. h.rest k lo ∙ w.above k (omega arith) ∙ blank.each k hi) i j p q;
      }

  -- the place of a block is that of two variables in order, which have one
  pub block_facts : (x : ℕ) → block_here has n x ≡ true → (x / 32 < x % 32) × (x % 32 < n) × (has (x / 32) (x % 32) ≡ true)
  unfolding block_here
  block_facts x q =
      let y = both (ltb (x / 32) (x % 32)) _ q in
      let z = both (ltb (x % 32) n) _ y.1 in
      (ltb-true _ _ y.0, ltb-true _ _ z.0, z.1)

  -- one place more
  module _ (t u w : List ℕ) (x : ℕ) (few : n ≤ 32) (E : EnteredTo has says n x t u) (p : PlaceEntered has says n x u w) where
    -- the place is that of one pair: what holds of it there holds of the pair
    at_place : (F : ℕ → ℕ → Type 0) (i j : ℕ) → j < n → 32 * i + j ≡ x → F (x / 32) (x % 32) → F i j
    at_place F i j l e h =
        let p : x / 32 ≡ i = omega arith in
        let q : x % 32 ≡ j = omega arith in
        subst (F i) q (subst (λ (k : ℕ). F k (x % 32)) p h)

    module _ (q : block_here has n x ≡ true) where
      entered : Entered u (x / 32) (x % 32) (says (x / 32) (x % 32)) w
      entered = p.block q

      here : Shows w (x / 32) (x % 32) (pair_says has says (x / 32) (x % 32))
      here = subst (λ (m : Bool). Shows w (x / 32) (x % 32) (λ a b. cond m (bit (get_or (says (x / 32) (x % 32)) a 0) b) true)) (sym (block_facts x q).2) entered.here

      others : (i j : ℕ) (f : ℕ → ℕ → Bool) → i < j → j < 32 → (32 * i + j ≡ x → ⊥) → Shows u i j f → Shows w i j f
      others i j f l m d s = entered.else i j f l m (λ h. let a = h.0 in let b = h.1 in d (omega arith)) s

      block_next : EnteredTo has says n (x + 1) t w
      block_next =
          record {
            located = entered_located E.located entered;
            sizes = λ k l. entered.front k (omega arith) ∙ E.sizes k l;
            below = λ i j l m b.
                ⊎_elim
                (λ (h : 32 * i + j < x). others i j _ l (omega arith) (λ e. absurd (omega arith)) (E.below i j l m h))
                (λ (h : x ≤ 32 * i + j). at_place (λ k g. Shows w k g (pair_says has says k g)) i j m (omega arith) here)
                (lt_dec (32 * i + j) x);
            above = λ i j l m b. others i j _ l m (λ e. absurd (omega arith)) (E.above i j l m (omega arith));
          }

    module _ (q : block_here has n x ≡ false) where
      without_block : x / 32 < x % 32 → x % 32 < n → has (x / 32) (x % 32) ≡ false
      unfolding block_here
      without_block l m = rw (lt-ltb (x / 32) (x % 32) l, lt-ltb (x % 32) n m) at q

      none_next : EnteredTo has says n (x + 1) t w
      none_next =
          subst (EnteredTo has says n (x + 1) t) (sym (p.none q))
          (record {
            located = E.located;
            sizes = E.sizes;
            below = λ i j l m b.
                ⊎_elim
                (λ (h : 32 * i + j < x). E.below i j l m h)
                (λ (h : x ≤ 32 * i + j).
                subst (λ (g : Bool). Shows u i j (λ a b. cond g (bit (get_or (says i j) a 0) b) true))
                (sym (at_place (λ k g. k < g → g < n → has k g ≡ false) i j m (omega arith) without_block l m))
                (E.above i j l (omega arith) h))
                (lt_dec (32 * i + j) x);
            above = λ i j l m b. E.above i j l m (omega arith);
          })

    pub place_next : EnteredTo has says n (x + 1) t w
    place_next = ⊎_elim (λ q. block_next q) (λ q. none_next q) (split (block_here has n x))

-- the places of all pairs are passed: the table is filled with any problem of these sizes that allows what is said
pub entered_filled : (has : ℕ → ℕ → Bool) (says : ℕ → ℕ → List ℕ) {P : Problem} (t t₁ t₂ u : List ℕ) (f : ℕ → ℕ) → Bounded P
    → Wrote 32 t t₁ 0 f → ((i : ℕ) → i < 32 → f i ≡ P.size i) → HasPlaces t₁ t₂ → EnteredTo has says P.n (32 * P.n) t₂ u
    → ((i j : ℕ) → i < j → j < P.n → (a b : ℕ) → a < P.size i → b < P.size j → pair_says has says i j a b ≡ P.allowed i a j b) → Filled P u
entered_filled has says t t₁ t₂ u f B w sized h E right =
    filled_pairs B E.located
    (λ i l. let z : 0 + i ≡ i = omega arith in E.sizes i l ∙ h.sizes i l ∙ rw z at (w.there i l) ∙ sized i l)
    (λ i j l m. record { says = pair_says has says i j; shows = E.below i j l m (omega arith); right = right i j l m })
