-- The pass over the blocks: what the table shows of each pair while k blocks from p are left. Assumes nothing.
use mathlib.Core.Path.{◌≡◌, sym, ap, ◌∙◌, subst}
use mathlib.Core.Bool.{true, false, ◌&&◌}
use mathlib.Core.List.{List}
use mathlib.Core.Logic.{◌⊎◌, inl, inr, ⊎_elim}
use Prim.Native.Nat.{ℕ, ◌+◌, ◌-◌, ◌*◌, ◌<◌}
use native.Mathlib.Omega.{arith}
use lib.Dec.{eqb}
use lib.ListN.{get_or}
use borrow.Author.Tests.{eq-eqb, ne_eqb}
use Rattle.bounded.specs.Mask.{bit}
use Rattle.bounded.proofs.Truth.{eq_dec}
use Rattle.problem.specs.Held.{place_at, Located, Filled}
use Rattle.problem.specs.Filling.{Shows, Entered}
use Rattle.problem.proofs.Filling.{Agrees, filled_pairs}
use Rattle.buffers.specs.Bytes.{byte_at}
use Rattle.sheet.specs.Sheet.{layout, variables_of, blocks_of, size_at, row_width, blocks_from, read_sheet, Keeps, Front}
use Rattle.sheet.specs.Relation.{rows_from, rows_of, row_in, size_of, problem_of}
use Rattle.std.specs.Prelude.{Err, Some}
use Rattle.sheet.specs.declared.SheetRefusal.{SheetRefusal}
use Rattle.sheet.proofs.Laws.{Whole, in_order_lem}
use Rattle.sheet.proofs.Accepted.{facts, rows_hit, rows_miss, rows_end, rows_of_lem, size_in, listed_of, problem_bounded}
use Rattle.sheet.proofs.Allows.{unconstrained_allowed, row_tells}
use Rattle.read_sheet.specs.Reading.{RowsRead, Free}

-- before the first turn of n all are left, and after one more one fewer
pub all_left : (n : ℕ) → n - 0 ≡ n
all_left n = omega arith

pub one_fewer : (n k : ℕ) → (n - k) - 1 ≡ n - (k + 1)
one_fewer n k = omega arith

module _ (s : List ℕ) where
  -- i and j have no block so far: theirs is among those left, if they have one
  pub record Ahead (t : List ℕ) (k p i j : ℕ) : Type 0 where
    pub left : rows_of layout s i j ≡ rows_from layout s i j k p
    pub shows : Shows t i j (λ a b. true)

  -- their block was met: x has its rows
  pub record Behind (t : List ℕ) (least i j : ℕ) : Type 0 where
    pub at : ℕ
    pub x : List ℕ
    pub found : rows_of layout s i j ≡ Some at
    pub rows : (a : ℕ) → a < size_at s i → get_or x a 0 ≡ row_in layout s j at a
    pub shows : Shows t i j (λ a b. bit (get_or x a 0) b)
    pub before : 32 * i + j < least

  pub record Pass (t : List ℕ) (k least p : ℕ) : Type 0 where
    pub located : Located t
    pub sizes : (i : ℕ) → i < 32 → get_or t i 0 ≡ size_of layout s i
    pub pairs : (i j : ℕ) → i < j → j < variables_of s → Ahead t k p i j ⊎ Behind t least i j

  pub pass_first : (t : List ℕ) → Front s → Free s t → Pass t (blocks_of s) 0 (8 + variables_of s)
  pass_first t f e =
      record {
        located = e.located;
        sizes = e.sizes;
        pairs = λ i j l m. let few = f.few in inl record { left = rows_of_lem layout s i j; shows = e.free i j l (omega arith) };
      }

  -- ---- one block more

  module _ (t u : List ℕ) (k least p l q : ℕ) (x : List ℕ) (h : 0 < k) (f : Front s) (w : Whole layout s least p l q)
      (r : RowsRead s (row_width layout s (byte_at s (p + 1))) (size_at s (byte_at s p)) (p + 2) x) (e : Entered t (byte_at s p) (byte_at s (p + 1)) x u) where
    -- the pair of the block: nothing was met of it, and here it is
    here : (i j : ℕ) → byte_at s p ≡ i → byte_at s (p + 1) ≡ j → Ahead t k p i j → Behind u l i j
    here i j ei ej a =
        let key = w.key in
        record {
          at = p + 2;
          x = x;
          found = a.left ∙ rows_hit layout s i j k p h (rw (eq-eqb (byte_at s p) i ei, eq-eqb (byte_at s (p + 1)) j ej));
          rows = subst (λ (n : ℕ). (a : ℕ) → a < size_at s n → get_or x a 0 ≡ row_in layout s j (p + 2) a) ei (subst (λ (m : ℕ). (a : ℕ) → a < size_at s (byte_at s p) → get_or x a 0 ≡ row_in layout s m (p + 2) a) ej r.row);
          shows = subst (λ (n : ℕ). Shows u n j (λ a b. bit (get_or x a 0) b)) ei (subst (λ (m : ℕ). Shows u (byte_at s p) m (λ a b. bit (get_or x a 0) b)) ej e.here);
          before = omega arith;
        }

    differ : (i j : ℕ) → ((i ≡ byte_at s p) × (j ≡ byte_at s (p + 1)) → ⊥) → (eqb (byte_at s p) i && eqb (byte_at s (p + 1)) j) ≡ false
    differ i j d = ⊎_elim (λ e. rw (eq-eqb (byte_at s p) i e, ne_eqb (byte_at s (p + 1)) j (λ g. d (sym e, sym g)))) (λ n. rw (ne_eqb (byte_at s p) i n)) (eq_dec (byte_at s p) i)

    -- any other pair is as it was
    ahead : (i j : ℕ) → i < j → j < 32 → ((i ≡ byte_at s p) × (j ≡ byte_at s (p + 1)) → ⊥) → Ahead t k p i j → Ahead u (k - 1) q i j
    ahead i j a b d g =
        record {
          left = g.left ∙ rows_miss layout s i j k p h (differ i j d) ∙ ap (rows_from layout s i j (k - 1)) (sym w.next);
          shows = e.else i j (λ a b. true) a b d g.shows;
        }

    behind : (i j : ℕ) → i < j → j < 32 → Behind t least i j → Behind u l i j
    behind i j a b g =
        let o = in_order_lem layout s least (byte_at s p) (byte_at s (p + 1)) w.order in
        let key = w.key in
        let less = g.before in
        let after = o.1.1 in
        record {
          at = g.at;
          x = g.x;
          found = g.found;
          rows = g.rows;
          shows = e.else i j (λ a b. bit (get_or g.x a 0) b) a b (λ z. let y = z.0 in let v = z.1 in absurd (omega arith)) g.shows;
          before = omega arith;
        }

    pub pass_more : Pass t k least p → Pass u (k - 1) l q
    pass_more c =
        record {
          located = record { long = e.long ∙ c.located.long; places = λ i j a b. e.front (place_at i j) (omega arith) ∙ c.located.places i j a b };
          sizes = λ i a. e.front i (omega arith) ∙ c.sizes i a;
          pairs = λ i j a b. let few = f.few in ⊎_elim (λ g. pair i j a (omega arith) g (eq_dec (byte_at s p) i) (eq_dec (byte_at s (p + 1)) j)) (λ g. inr (behind i j a (omega arith) g)) (c.pairs i j a b);
        }
      where
        pair : (i j : ℕ) → i < j → j < 32 → Ahead t k p i j → (byte_at s p ≡ i) ⊎ (byte_at s p ≡ i → ⊥) → (byte_at s (p + 1) ≡ j) ⊎ (byte_at s (p + 1) ≡ j → ⊥) → Ahead u (k - 1) q i j ⊎ Behind u l i j
        pair i j a b g (inl x) (inl y) = inr (here i j x y g)
        pair i j a b g (inl x) (inr y) = inl (ahead i j a b (λ z. y (sym z.1)) g)
        pair i j a b g (inr x) y = inl (ahead i j a b (λ z. x (sym z.0)) g)

  -- ---- the end

  module _ (t : List ℕ) (k least p : ℕ) (last : k ≡ 0) (y : Keeps layout s) (c : Pass t k least p) where
    unmet : (i j : ℕ) → i < j → j < variables_of s → Ahead t k p i j → Agrees (problem_of layout s) t i j
    unfolding problem_of
    unmet i j l m g =
        let none = g.left ∙ ap (λ (n : ℕ). rows_from layout s i j n p) last ∙ rows_end layout s i j p in
        record {
          says = λ a b. true;
          shows = g.shows;
          right = λ a b la lb.
              let zi = size_in layout s i (omega arith) in
              let zj = size_in layout s j m in
              sym (unconstrained_allowed layout s i a j b l (listed_of layout s i a (omega arith) (omega arith)) (listed_of layout s j b m (omega arith)) none);
        }

    met : (i j : ℕ) → i < j → j < variables_of s → Behind t least i j → Agrees (problem_of layout s) t i j
    unfolding problem_of
    met i j l m g =
        record {
          says = λ a b. bit (get_or g.x a 0) b;
          shows = g.shows;
          right = λ a b la lb.
              let zi = size_in layout s i (omega arith) in
              let zj = size_in layout s j m in
              ap (λ (n : ℕ). bit n b) (g.rows a (omega arith))
              ∙ sym (row_tells layout s i a j b l (listed_of layout s i a (omega arith) (omega arith)) (listed_of layout s j b m (omega arith)) g.at g.found);
        }

    pub pass_end : Filled (problem_of layout s) t
    unfolding problem_of
    pass_end = filled_pairs (problem_bounded s y) c.located c.sizes (λ i j l m. ⊎_elim (unmet i j l m) (met i j l m) (c.pairs i j l m))

  -- ---- a sheet that is refused keeps no layout: of its table nothing is asked

  pub refused : (t : List ℕ) (f : SheetRefusal) → Err f ≡ read_sheet layout s → (Err f ≡ read_sheet layout s) × (Keeps layout s → Filled (problem_of layout s) t)
  refused t f e = (e, λ y. let z : ◌≡◌ {A = ℕ} 0 1 = cc in absurd (omega arith))

  pub refused_block : (t : List ℕ) (f : SheetRefusal) → Err f ≡ blocks_from layout s (blocks_of s) 0 (8 + variables_of s)
      → (Err f ≡ blocks_from layout s (blocks_of s) 0 (8 + variables_of s)) × (Keeps layout s → Filled (problem_of layout s) t)
  refused_block t f e = (e, λ y. let g = (facts layout s y).laid in let z : ◌≡◌ {A = ℕ} 0 1 = cc in absurd (omega arith))
