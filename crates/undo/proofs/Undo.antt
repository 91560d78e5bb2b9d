-- Undoing in a list: stores are the plan changed, and what is undone depends on the plan's own entries only. Assumes nothing.
use mathlib.Core.Path.{◌≡◌, refl, sym, ap, ◌∙◌, subst}
use mathlib.Core.Bool.{Bool, true, false, not, ◌&&◌}
use mathlib.Core.Logic.{◌⊎◌, inl, inr, ◌≢◌}
use mathlib.Core.List.{List, [], ◌∷◌}
use Prim.Native.Nat.{ℕ, zero, suc, ◌<◌}
use native.Mathlib.Nat.{not-suc-le-zero, le_of_suc-le-suc}
use native.Mathlib.Omega.{arith}
use lib.Dec.{T, eqb}
use lib.ListN.{length, get_or, set, length-set}
use borrow.Author.Tests.{ne_eqb}
use lib.Seq.{ext_get_or, get_or-set_same, get_or-set_other}
use Rattle.bounded.specs.Table.{tab, filled}
use Rattle.bounded.proofs.Truth.{T_of, clash, both, eq_dec, not_iff, eqb_iff}
use Rattle.bounded.proofs.Table.{length_tab, get_d_tab}
use Rattle.problem.specs.Problem.{Problem, State, lowest_live, snake_serves, triangle_serves}
use Rattle.problem.specs.Run.{holds_by, holds, after, after_trace, lawful_trace}
use Rattle.problem.specs.PutBack.{put, repair, undo, undo_trace, plan_of}
use Rattle.problem.specs.declared.Record.{Record}
use Rattle.problem.specs.declared.Record.TheVariants.{Unsupported, Snake, Triangle, Neighbourhood, SnakeSubstitution}
use Rattle.problem.proofs.Reflect.{snake_iff, triangle_iff, eliminate_active, eliminate_live}
use Rattle.problem.specs.Sentences.{Active, Live, Fits, Solution}
use Rattle.problem.proofs.Sound.{put_same, put_other}
use Rattle.problem.proofs.Trace.{after_fits, trace_undone}
use Rattle.undo.specs.Undone.{mended}

-- ---- lists by their entries

pub tab_ext : (n : ℕ) (f g : ℕ → ℕ) → ((k : ℕ) → k < n → f k ≡ g k) → tab n f ≡ tab n g
unfolding tab
tab_ext zero f g h = refl
tab_ext (suc n) f g h = λ i. h 0 (omega arith) i ∷ tab_ext n (λ k. f (suc k)) (λ k. g (suc k)) (λ k l. h (suc k) (omega arith)) i

tab_plan : (xs : List ℕ) → tab (length xs) (plan_of xs) ≡ xs
unfolding tab
tab_plan [] = refl
tab_plan (x ∷ xs) = ap (λ (l : List ℕ). x ∷ l) (tab_plan xs)

pub tab_back : (n : ℕ) (xs : List ℕ) → length xs ≡ n → xs ≡ tab n (plan_of xs)
tab_back n xs e = sym (tab_plan xs) ∙ ap (λ (k : ℕ). tab k (plan_of xs)) e

-- an entry that the filling has not come to
pub filled_here : (k : ℕ) (f : ℕ → ℕ) (d : List ℕ) → k < length d → get_or (filled k f d) k 0 ≡ get_or d k 0
unfolding filled tab
filled_here k f [] l = absurd (not-suc-le-zero l)
filled_here zero f (x ∷ d) l = refl
filled_here (suc k) f (x ∷ d) l = filled_here k (λ j. f (suc j)) d (le_of_suc-le-suc l)

-- a store is the plan changed at one variable
set_tab : (n : ℕ) (f : ℕ → ℕ) (i v : ℕ) → i < n → set (tab n f) i v ≡ tab n (put i v f)
set_tab n f i v l =
    let a = length_tab n f in
    let b = length_tab n (put i v f) in
    let c = length-set (tab n f) i v in
    ext_get_or 0 (set (tab n f) i v) (tab n (put i v f)) (omega arith) (λ k h. let m : k < n = omega arith in at k m (eq_dec k i) ∙ sym (get_d_tab n (put i v f) k 0 m))
  where
    at : (k : ℕ) → k < n → (k ≡ i) ⊎ (k ≢ i) → get_or (set (tab n f) i v) k 0 ≡ put i v f k
    at k m (inl e) = let a = length_tab n f in ap (λ (j : ℕ). get_or (set (tab n f) i v) j 0) e ∙ get_or-set_same (tab n f) i v 0 (omega arith) ∙ sym (put_same i v f) ∙ ap (put i v f) (sym e)
    at k m (inr d) = get_or-set_other (tab n f) i k v 0 d ∙ get_d_tab n f k 0 m ∙ sym (put_other i v f k d)

-- ---- one record

module _ (P : Problem) (s : State) where
  pub snake_store : (i v : ℕ) (xs ys : List ℕ) → i < P.n → ys ≡ tab P.n (λ j. mended P s i v j (plan_of xs j)) → set ys i v ≡ tab P.n (undo P s (Snake i v) (plan_of xs))
  unfolding undo repair mended
  snake_store i v xs ys l e = ap (λ (z : List ℕ). set z i v) e ∙ set_tab P.n _ i v l

  pub triangle_store : (i j u : ℕ) (xs : List ℕ) → length xs ≡ P.n → i < P.n → u ≡ lowest_live P s i (λ c. triangle_serves P s i j (plan_of xs j) c) → set xs i u ≡ tab P.n (undo P s (Triangle i j) (plan_of xs))
  unfolding undo
  triangle_store i j u xs n l e =
      ap (λ (z : List ℕ). set z i u) (tab_back P.n xs n) ∙ set_tab P.n (plan_of xs) i u l ∙ ap (λ (z : ℕ). tab P.n (put i z (plan_of xs))) e

  module _ (i v j w : ℕ) where
    mended_by : (b : Bool) → (s.active j && (not (eqb j i) && not (P.allowed i v j w))) ≡ b → elim b as (λ x. ℕ) [ true ↦ lowest_live P s j (λ w'. snake_serves P s i v j w w') | false ↦ w ] ≡ mended P s i v j w
    unfolding mended
    mended_by b e = ap (λ (b : Bool). elim b as (λ x. ℕ) [ true ↦ lowest_live P s j (λ w'. snake_serves P s i v j w w') | false ↦ w ]) (sym e)

    -- an allowed value, one of a variable that is not active, and i's own stay
    pub mended_allowed : P.allowed i v j w ≡ true → w ≡ mended P s i v j w
    mended_allowed e = mended_by false (off (s.active j) (not (eqb j i)) (P.allowed i v j w) e)
      where
        off : (x y z : Bool) → z ≡ true → (x && (y && not z)) ≡ false
        off true true z e = ap not e
        off true false z e = refl
        off false y z e = refl

    pub mended_out : {a : Bool} → a ≡ s.active j → (a && not (eqb j i)) ≡ false → w ≡ mended P s i v j w
    mended_out {a} e h = mended_by false (off (s.active j) (not (eqb j i)) (not (P.allowed i v j w)) (ap (λ (b : Bool). b && not (eqb j i)) (sym e) ∙ h))
      where
        off : (x y z : Bool) → (x && y) ≡ false → (x && (y && z)) ≡ false
        off true true z e = absurd (clash {b = true} refl e)
        off true false z e = refl
        off false y z e = refl

    pub mended_barred : s.active j ≡ true → j ≢ i → P.allowed i v j w ≡ false → lowest_live P s j (λ w'. snake_serves P s i v j w w') ≡ mended P s i v j w
    mended_barred e d h = mended_by true (λ k. e k && (not (ne_eqb j i d k) && not (h k)))

-- an active variable other than i
pub other_active : (a : Bool) (j i : ℕ) → (a && not (eqb j i)) ≡ true → (a ≡ true) × (j ≢ i)
other_active a j i h =
    let x = both a (not (eqb j i)) h in
    (x.0, λ e. (not_iff (eqb j i)).0 (T_of x.1) ((eqb_iff j i).1 e))

-- two plans that agree on the problem's variables
module _ {P : Problem} {s : State} (F : Fits P s) (p q : ℕ → ℕ) (same : (k : ℕ) → k < P.n → p k ≡ q k) where
  pub solution_ext : Solution P s p → Solution P s q
  solution_ext A =
      record {
        live = λ i h. subst (λ (x : ℕ). Live s i x) (same i (F.active_lt i h)) (A.live i h);
        ok = λ i j hi hj d. subst (λ (x : ℕ). T (P.allowed i x j (q j))) (same i (F.active_lt i hi)) (subst (λ (x : ℕ). T (P.allowed i (p i) j x)) (same j (F.active_lt j hj)) (A.ok i j hi hj d));
      }

  pub undo_ext : (r : Record) → T (holds P s r) → (k : ℕ) → k < P.n → undo P s r p k ≡ undo P s r q k
  unfolding undo put repair holds_by
  undo_ext (Unsupported i b a) t k l = same k l
  undo_ext (Snake i v) t k l =
      ap (λ (x : ℕ). elim (eqb k i) as (λ y. ℕ) [ true ↦ v | false ↦ elim (s.active k && (not (eqb k i) && not (P.allowed i v k x))) as (λ y. ℕ) [ true ↦ lowest_live P s k (λ w'. snake_serves P s i v k x w') | false ↦ x ] ]) (same k l)
  undo_ext (Triangle i j) t k l =
      let m = F.active_lt j ((triangle_iff F i j).0 t).1.0 in
      (λ h. elim (eqb k i) as (λ y. ℕ) [ true ↦ lowest_live P s i (λ u. triangle_serves P s i j (same j m h) u) | false ↦ same k l h ])
  undo_ext (Neighbourhood i b a) t k l = same k l
  undo_ext (SnakeSubstitution i b a) t k l = same k l

-- ---- the values that undoing reads are in their domains

module _ {P : Problem} {s : State} (F : Fits P s) where
  pub snake_left : (i v : ℕ) (p : ℕ → ℕ) → Solution P (after P s (Snake i v)) p → (j : ℕ) → Active s j → j ≢ i → Live s j (p j)
  unfolding after
  snake_left i v p A j h d = ((eliminate_live P s F i j (p j)).0 (A.live j ((eliminate_active P s i j).1 (h, d)))).0

  pub triangle_left : (i j : ℕ) (p : ℕ → ℕ) → T (holds P s (Triangle i j)) → Solution P (after P s (Triangle i j)) p → Live s j (p j) × (Active s i × (Active s j × (j ≢ i)))
  unfolding after holds_by
  triangle_left i j p t A =
      let x = (triangle_iff F i j).0 t in
      (((eliminate_live P s F i j (p j)).0 (A.live j ((eliminate_active P s i j).1 (x.1.0, x.1.1.0)))).0, (x.0, (x.1.0, x.1.1.0)))

  pub snake_live : (i v : ℕ) → T (holds P s (Snake i v)) → Live s i v
  unfolding holds_by
  snake_live i v t = ((snake_iff F i v).0 t).0

  -- ---- the trace

  -- the plan after the later records are undone solves the state after the first
  pub later_solved : (r : Record) (ts : List Record) (xs ys : List ℕ) → T (lawful_trace P (after P s r) ts) → Solution P (after_trace P (after P s r) ts) (plan_of xs)
      → ys ≡ tab P.n (undo_trace P (after P s r) ts (plan_of xs)) → Solution P (after P s r) (plan_of ys)
  later_solved r ts xs ys h A e =
      solution_ext (after_fits P F r) (undo_trace P (after P s r) ts (plan_of xs)) (plan_of ys) (λ k l. sym (ap (λ (z : List ℕ). plan_of z k) e ∙ get_d_tab P.n (undo_trace P (after P s r) ts (plan_of xs)) k 0 l))
      (trace_undone P (after_fits P F r) ts h (plan_of xs) A)

  -- and the first undone then is all undone
  pub all_undone : (r : Record) (ts : List Record) (xs ys : List ℕ) → T (holds P s r)
      → ys ≡ tab P.n (undo_trace P (after P s r) ts (plan_of xs)) → tab P.n (undo P s r (plan_of ys)) ≡ tab P.n (undo_trace P s (r ∷ ts) (plan_of xs))
  unfolding undo_trace
  all_undone r ts xs ys t e =
      tab_ext P.n _ _ (undo_ext F (plan_of ys) (undo_trace P (after P s r) ts (plan_of xs)) (λ k l. ap (λ (z : List ℕ). plan_of z k) e ∙ get_d_tab P.n (undo_trace P (after P s r) ts (plan_of xs)) k 0 l) r t)
