-- That what is not pending waits for what its failure rests on: at first, when a test has failed, and when a variable has changed. Assumes nothing.
use mathlib.Core.Path.{◌≡◌, refl, sym, ◌∙◌, ap, subst}
use mathlib.Core.Logic.Iff
use mathlib.Core.Logic.{◌⊎◌, inl, inr, ◌≢◌, ⊎_elim, ◌↔◌}
use mathlib.Core.List.{List}
use Prim.Native.Nat.{ℕ, zero, suc, ◌+◌, ◌%◌, ◌^◌, ◌<◌}
use native.Mathlib.Omega.{arith}
use lib.Dec.{T}
use lib.ListN.{length, get_or, replicate, length-replicate, get_or-replicate}
use Rattle.bounded.specs.Mask.{bit}
use Rattle.bounded.proofs.Truth.{T_of, T_not, eq_dec, lt_dec}
use Rattle.bounded.proofs.Mask.{full_bit, bit_high}
use Rattle.problem.specs.Problem.{Problem, State, remove, eliminate}
use Rattle.problem.proofs.Reflect.{remove_live, eliminate_active}
use Rattle.problem.specs.Sentences.{Active, Live, Fits, ArcConsistent, Triangle}
use Rattle.rests.specs.Rests.{Below, Kept, Rests, Of, Elsewhere}
use Rattle.waiting.specs.Waiting.{rows, groups, triangles_from, waiting_length, row_of, waits_at, triangle_group, triangle_at, Passes, In, WaitsFor, Awaited, Waits, Learned, Woken, TriangleLearned, TrianglesWoken}
use Rattle.rests.proofs.Rests.{below_trans, rests_fails, rests_more}
use Rattle.rests.proofs.Changes.{remove_below, remove_keeps, eliminate_below, eliminate_keeps}

-- the members of a word are variables
word_below : (word : ℕ) → word < 2 ^ 32 → (l : ℕ) → T (bit word l) → l < 32
word_below word small l t = ⊎_elim (λ h. h) (λ h. absurd (T_not (bit_high 32 word l small h) t)) (lt_dec l 32)

-- at first every test is pending
pub waits_fresh : (P : Problem) (s : State) → Waits P s (replicate rows 65535) (replicate waiting_length 0)
waits_fresh P s =
    record {
      narrow = length-replicate {A = ℕ} rows 65535;
      long = length-replicate {A = ℕ} waiting_length 0;
      rests = λ g i c k l m n. absurd (n (all (row_of g i) c (omega arith) m));
    }
  where
    all : (r c : ℕ) → r < rows → c < 16 → In (replicate rows 65535) r c
    all r c l m = T_of (ap (λ (x : ℕ). bit x c) (get_or-replicate rows r 65535 0 l) ∙ full_bit 16 c m)

-- a test that is not pending need not be tried
pub waits_fails : {P : Problem} {s : State} {p w : List ℕ} → Fits P s → Waits P s p w → (g i c : ℕ) → g < groups → i < 32 → c < 16 → (In p (row_of g i) c → ⊥) → Passes P g i c s → ⊥
waits_fails F H g i c k l m n = rests_fails F (H.rests g i c k l m n)

-- ---- what a test waits for

-- g and c name the triangle with j
abbrev OfTriangle : (g c j : ℕ) → Type 0
OfTriangle g c j = (j < 32) × (g ≡ triangle_group j) × (c ≡ j % 16)

-- a variable, or the one value of j
awaited_by : {B : Type 0} (w : List ℕ) (g i c l y : ℕ) → c < 16 → (WaitsFor w g i c l y → B) → ((j : ℕ) → OfTriangle g c j → l ≡ j → y ≡ get_or w (triangle_at j i) 0 → B) → Awaited w g i c l y → B
awaited_by w zero i c l y m f h t = f t
awaited_by w (suc zero) i c l y m f h t = ⊎_elim f (λ e. h c (omega arith, omega arith, omega arith) e.0 e.1) t
awaited_by w (suc (suc zero)) i c l y m f h t = ⊎_elim f (λ e. h (16 + c) (omega arith, omega arith, omega arith) e.0 e.1) t
awaited_by w (suc (suc (suc g))) i c l y m f h t = f t

awaited_waits : (w : List ℕ) (g i c l y : ℕ) → WaitsFor w g i c l y → Awaited w g i c l y
awaited_waits w zero i c l y t = t
awaited_waits w (suc zero) i c l y t = inl t
awaited_waits w (suc (suc zero)) i c l y t = inl t
awaited_waits w (suc (suc (suc g))) i c l y t = t

awaited_value : (w : List ℕ) (g i c j l y : ℕ) → OfTriangle g c j → l ≡ j → y ≡ get_or w (triangle_at j i) 0 → Awaited w g i c l y
awaited_value w zero i c j l y k e f = absurd (omega (arith, k.1))
awaited_value w (suc zero) i c j l y k e f = let d : j ≡ c = omega (arith, k.0, k.1, k.2) in inr (subst (λ (j : ℕ). (l ≡ j) × (y ≡ get_or w (triangle_at j i) 0)) d (e, f))
awaited_value w (suc (suc zero)) i c j l y k e f = let d : j ≡ 16 + c = omega (arith, k.0, k.1, k.2) in inr (subst (λ (j : ℕ). (l ≡ j) × (y ≡ get_or w (triangle_at j i) 0)) d (e, f))
awaited_value w (suc (suc (suc g))) i c j l y k e f = absurd (omega (arith, k.0, k.1))

triangle_passes : (P : Problem) (q : State) (g i c j : ℕ) → OfTriangle g c j → Passes P g i c q ↔ Triangle P q i j
triangle_passes P q zero i c j k = absurd (omega (arith, k.1))
triangle_passes P q (suc zero) i c j k = let d : j ≡ c = omega (arith, k.0, k.1, k.2) in subst (λ (j : ℕ). Triangle P q i c ↔ Triangle P q i j) (sym d) Iff.rfl
triangle_passes P q (suc (suc zero)) i c j k = let d : j ≡ 16 + c = omega (arith, k.0, k.1, k.2) in subst (λ (j : ℕ). Triangle P q i (16 + c) ↔ Triangle P q i j) (sym d) Iff.rfl
triangle_passes P q (suc (suc (suc g))) i c j k = absurd (omega (arith, k.0, k.1))

-- a triangle that is not pending need not be tried
pub waits_triangle_fails : {P : Problem} {s : State} {p w : List ℕ} → Fits P s → Waits P s p w → (i j : ℕ) → i < 32 → j < 32 → (In p (row_of (triangle_group j) i) (j % 16) → ⊥) → Triangle P s i j → ⊥
waits_triangle_fails {P} {s} F H i j k l n t = waits_fails F H (triangle_group j) i (j % 16) (omega arith) k (omega arith) n ((triangle_passes P s (triangle_group j) i (j % 16) j (l, refl, refl)).1 t)

-- ---- a test has failed

-- one test waits for something new, and the others as before
waits_but : {P : Problem} {s : State} {p w q x : List ℕ} → Waits P s p w → (g i c : ℕ) → g < groups → i < 32 → c < 16 → length q ≡ rows → length x ≡ waiting_length
    → ((r d : ℕ) → d < 16 → In p r d → ((r ≡ row_of g i × d ≡ c) → ⊥) → In q r d) → ((r d : ℕ) → r < triangles_from → In w r d → In x r d)
    → ((a b d j : ℕ) → b < 32 → OfTriangle a d j → ((row_of a b ≡ row_of g i × d ≡ c) → ⊥) → get_or x (triangle_at j b) 0 ≡ get_or w (triangle_at j b) 0)
    → Rests P s (Passes P g i c) (Awaited x g i c)
    → Waits P s q x
waits_but {P} {s} {p} {w} {q} {x} H g i c k l m narrow long pending kept values new =
    record { narrow = narrow; long = long; rests = λ a b d ka la ma n. by a b d ka la ma n (eq_dec (row_of a b) (row_of g i)) (eq_dec d c) }
  where
    old : (a b d : ℕ) → a < groups → b < 32 → d < 16 → (In q (row_of a b) d → ⊥) → ((row_of a b ≡ row_of g i × d ≡ c) → ⊥) → Rests P s (Passes P a b d) (Awaited x a b d)
    old a b d ka la ma n o =
        rests_more (H.rests a b d ka la ma (λ t. n (pending (row_of a b) d ma t o)))
        (λ v y t.
        awaited_by w a b d v y ma (λ f. awaited_waits x a b d v y (f.0, kept (waits_at v (row_of a b)) d (let h = f.0 in omega arith) f.1))
        (λ j h e f. awaited_value x a b d j v y h e (f ∙ sym (values a b d j la h o)))
        t)

    by : (a b d : ℕ) → a < groups → b < 32 → d < 16 → (In q (row_of a b) d → ⊥) → (row_of a b ≡ row_of g i) ⊎ (row_of a b ≢ row_of g i) → (d ≡ c) ⊎ (d ≢ c) → Rests P s (Passes P a b d) (Awaited x a b d)
    by a b d ka la ma n (inr e) f = old a b d ka la ma n (λ y. e y.0)
    by a b d ka la ma n (inl e) (inr f) = old a b d ka la ma n (λ y. f y.1)
    by a b d ka la ma n (inl e) (inl f) =
        let ea : a ≡ g = omega arith in
        let eb : b ≡ i = omega arith in
        rw (ea, eb, f) new

-- it waits for the variables that its failure rests on
pub waits_learned : {P : Problem} {s : State} {p w q x : List ℕ} {rests : ℕ} → Waits P s p w → (g i c : ℕ) → g < groups → i < 32 → c < 16 → Learned rests (row_of g i) c p w q x
    → Rests P s (Passes P g i c) (Of rests) → rests < 2 ^ 32
    → Waits P s q x
waits_learned {x = x} {rests} H g i c k l m E R small =
    waits_but H g i c k l m E.narrow E.watched.long E.pending (λ r d h t. E.watched.kept r d t) (λ a b d j h f o. E.watched.values (triangle_at j b) (omega arith))
    (rests_more R (λ v y t. let h = word_below rests small v t in awaited_waits x g i c v y (h, E.watched.entered v h t)))

-- the triangle of i with j has failed by value v: it waits for that value beside the variables
pub waits_triangle_learned : {P : Problem} {s : State} {p w q x : List ℕ} {rests : ℕ} → Waits P s p w → (i j v : ℕ) → i < 32 → j < 32 → TriangleLearned rests i j v p w q x → rests < 2 ^ 32
    → Rests P s (λ r. Triangle P r i j) (λ l x. T (bit rests l) ⊎ ((l ≡ j) × (x ≡ v)))
    → Waits P s q x
waits_triangle_learned {P} {x = x} {rests} H i j v k l E small R =
    waits_but H g i c (omega arith) k (omega arith) E.narrow E.long E.pending E.kept
    (λ a b d u h f o. E.values (triangle_at u b) (omega arith) (λ e. other a b d u h f o e))
    (λ r F B K X.
    R r F B (λ u y t n. K u y (⊎_elim (λ b. let h = word_below rests small u b in awaited_waits x g i c u y (h, E.entered u h b)) (λ e. awaited_value x g i c j u y (l, refl, refl) e.0 (e.1 ∙ sym E.by)) t) n)
    ((triangle_passes P r g i c j (l, refl, refl)).0 X))
  where
    g : ℕ
    g = triangle_group j

    c : ℕ
    c = j % 16

    other : (a b d u : ℕ) → b < 32 → OfTriangle a d u → ((row_of a b ≡ row_of g i × d ≡ c) → ⊥) → triangle_at u b ≡ triangle_at j i → ⊥
    other a b d u h f o e =
        let eu : u ≡ j = omega arith in
        let eb : b ≡ i = omega arith in
        o (omega (arith, eu, eb, f.1), f.2 ∙ ap (λ (z : ℕ). z % 16) eu)

-- ---- a variable has changed

-- only l has changed: what waits for it is pending, and a triangle with l whose test may pass again has kept its value
waits_changed : {P : Problem} {s t : State} {p p' w q x : List ℕ} → Waits P s p w → Below t s → (l : ℕ) → Kept s t (Elsewhere l) → ((r d : ℕ) → r < rows → In p r d → In p' r d) → Woken l p' w q x
    → ((i : ℕ) → i < 32 → (In q (row_of (triangle_group l) i) (l % 16) → ⊥) → (r : State) → Below r t → Triangle P r i l → Live s l (get_or w (triangle_at l i) 0) → Live t l (get_or w (triangle_at l i) 0))
    → Waits P t q x
waits_changed {P} {s} {t} {w = w} {q} {x} H B l K pending E still =
    record {
      narrow = E.narrow;
      long = E.long;
      rests =
          λ g i c kg ki kc n r F C L X.
          H.rests g i c kg ki kc (λ o. n (E.pending (row_of g i) c (omega arith) (pending (row_of g i) c (omega arith) o))) r F (below_trans C B)
          (λ v y a o. awaited_by w g i c v y kc (λ a. waits g i c kg ki n r L v y a o (eq_dec v l)) (λ j h e f. value g i c ki n r C L X v y j h e f o (eq_dec v l)) a)
          X;
    }
  where
    waits : (g i c : ℕ) → g < groups → i < 32 → (In q (row_of g i) c → ⊥) → (r : State) → Kept t r (Awaited x g i c) → (v y : ℕ) → WaitsFor w g i c v y → Live s v y → (v ≡ l) ⊎ (v ≢ l) → Live r v y
    waits g i c kg ki n r L v y a o (inl e) = absurd (n (E.woken (row_of g i) c (omega arith) (subst (λ (v : ℕ). In w (waits_at v (row_of g i)) c) e a.1)))
    waits g i c kg ki n r L v y a o (inr d) = L v y (awaited_waits x g i c v y (a.0, E.kept v (row_of g i) c (omega arith) d a.1)) (K v y d o)

    value : (g i c : ℕ) → i < 32 → (In q (row_of g i) c → ⊥) → (r : State) → Below r t → Kept t r (Awaited x g i c) → Passes P g i c r
        → (v y j : ℕ) → OfTriangle g c j → v ≡ j → y ≡ get_or w (triangle_at j i) 0 → Live s v y → (v ≡ l) ⊎ (v ≢ l) → Live r v y
    value g i c k n r C L X v y j h e f o d = L v y (awaited_value x g i c j v y h e (f ∙ sym (E.values (triangle_at j i) (omega arith)))) (there d)
      where
        there : (v ≡ l) ⊎ (v ≢ l) → Live t v y
        there (inr d) = K v y d o
        there (inl d) =
            let ej : j ≡ l = sym e ∙ d in
            let ey : y ≡ get_or w (triangle_at l i) 0 = f ∙ ap (λ (j : ℕ). get_or w (triangle_at j i) 0) ej in
            subst (λ (v : ℕ). Live t v y) (sym d)
            (subst (Live t l) (sym ey)
            (still i k (λ a. n (subst (λ (z : ℕ). In q (row_of z i) c) (sym (h.1 ∙ ap triangle_group ej)) (subst (In q (row_of (triangle_group l) i)) (sym (h.2 ∙ ap (λ (j : ℕ). j % 16) ej)) a))) r C
            (subst (Triangle P r i) ej ((triangle_passes P r g i c j h).0 X))
            (subst (Live s l) ey (subst (λ (v : ℕ). Live s v y) d o))))

-- value c of l was removed: of the triangles with l those that wait for it are pending
pub waits_removed : {P : Problem} {s : State} {p w p' q x : List ℕ} → Waits P s p w → (l c : ℕ) → l < 32 → TrianglesWoken l c p w p' → Woken l p' w q x → Waits P (remove P s l c) q x
waits_removed {P} {s} {p} {w} {p'} {q} {x} H l c k D E =
    waits_changed H (remove_below P s l c) l (remove_keeps P s l c) D.pending E
    (λ i h n r C X o. (remove_live P s l c l (get_or w (triangle_at l i) 0)).1 (o, λ e. n (E.pending (row_of (triangle_group l) i) (l % 16) (omega arith) (D.woken i h e.1))))

-- l was eliminated in an arc consistent state: the triangles with it fail for good
pub waits_eliminated : {P : Problem} {s : State} {p w q x : List ℕ} → Fits P s → ArcConsistent P s → (l : ℕ) → l < 32 → Active s l → Waits P s p w → Woken l p w q x → Waits P (eliminate P s l) q x
waits_eliminated {P} {s} F A l k h H E =
    waits_changed H (eliminate_below F l) l (eliminate_keeps F A l h) (λ r d m t. t) E
    (λ i k n r C X o. absurd (((eliminate_active P s l l).0 (C.active l X.1.0)).1 refl))
