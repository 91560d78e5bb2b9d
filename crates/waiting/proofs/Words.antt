-- The words of what is pending and of what waits: what a store keeps and adds, and the loops that enter a test and wake those that wait. Assumes nothing.
use mathlib.Core.Path.{◌≡◌, refl, sym, ap, ◌∙◌, subst}
use mathlib.Core.Bool.{not, cond}
use mathlib.Core.Logic.{◌⊎◌, inl, inr, ◌≢◌}
use mathlib.Core.List.{List}
use Prim.Native.Nat.{ℕ, ◌+◌, ◌-◌, ◌*◌, ◌%◌, ◌^◌, ◌≤◌, ◌<◌}
use native.Mathlib.Omega.{arith}
use lib.Bits.{bit_or}
use lib.Dec.{T, eqb}
use lib.ListN.{get_or, set, length, length-set}
use lib.Seq.{get_or-set_same, get_or-set_other}
use Rattle.bounded.specs.Mask.{bit, without}
use Rattle.bounded.proofs.Truth.{T_true, T_dec, T_not, and_iff, or_iff, not_iff, eqb_iff, eq_dec, lt_dec}
use Rattle.bounded.proofs.Mask.{bit_or_lem, bit_none, bit_single, bit_first, bit_second, bit_without16, bit_without32, with_keeps, with_has}
use Rattle.bounded.proofs.Members.{Left, left_all, left_next, without_gone}
use Rattle.waiting.specs.Waiting.{rows, triangles_from, waiting_length, row_of, waits_at, triangles, triangle_group, triangle_at, In, TrianglesPending, Watched, Learned, Woken, TriangleLearned, TrianglesWoken}

-- ---- two words read as one

-- in the two rows of i, side by side, bit j is that of the triangle with j
pub triangles_joined : (p : List ℕ) (i x y r : ℕ) → x ≡ get_or p (row_of triangles i) 0 → y ≡ get_or p (row_of (triangles + 1) i) 0 → r ≡ x + 65536 * y → x < 2 ^ 16 → TrianglesPending p i r
triangles_joined p i x y r ex ey er small = record { at = λ j l. ap (λ (r : ℕ). bit r j) er ∙ at j l (lt_dec j 16) }
  where
    at : (j : ℕ) → j < 32 → (j < 16) ⊎ (16 ≤ j) → bit (x + 65536 * y) j ≡ bit (get_or p (row_of (triangle_group j) i) 0) (j % 16)
    at j l (inl m) =
        let e : row_of triangles i ≡ row_of (triangle_group j) i = omega arith in
        let f : j ≡ j % 16 = omega arith in
        bit_first 16 x y j m ∙ (λ k. bit (ex k) (f k)) ∙ ap (λ (k : ℕ). bit (get_or p k 0) (j % 16)) e
    at j l (inr m) =
        let e : row_of (triangles + 1) i ≡ row_of (triangle_group j) i = omega arith in
        let f : j - 16 ≡ j % 16 = omega arith in
        bit_second 16 x y j small m ∙ (λ k. bit (ey k) (f k)) ∙ ap (λ (k : ℕ). bit (get_or p k 0) (j % 16)) e

-- ---- one word stored

put_here : (w : List ℕ) (p z c : ℕ) → p < length w → T (bit z c) → In (set w p z) p c
put_here w p z c l t = subst (λ (y : ℕ). T (bit y c)) (sym (get_or-set_same w p z 0 l)) t

put_other : (w : List ℕ) (p z r c : ℕ) → r ≢ p → In w r c → In (set w p z) r c
put_other w p z r c d t = subst (λ (y : ℕ). T (bit y c)) (sym (get_or-set_other w p r z 0 d)) t

-- where the word keeps its members, nothing is lost
put_kept : (w : List ℕ) (p z : ℕ) → p < length w → (r c : ℕ) → (r ≡ p → T (bit (get_or w p 0) c) → T (bit z c)) → In w r c → In (set w p z) r c
put_kept w p z l r c f t = go (eq_dec r p)
  where
    go : (r ≡ p) ⊎ (r ≢ p) → In (set w p z) r c
    go (inl e) = subst (λ (k : ℕ). In (set w p z) k c) (sym e) (put_here w p z c l (f e (subst (λ (k : ℕ). In w k c) e t)))
    go (inr d) = put_other w p z r c d t

or_left : (x y c : ℕ) → T (bit x c) → T (bit (bit_or x y) c)
or_left x y c t = subst T (sym (bit_or_lem x y c)) ((or_iff (bit x c) (bit y c)).1 (inl t))

or_right : (x y c : ℕ) → T (bit y c) → T (bit (bit_or x y) c)
or_right x y c t = subst T (sym (bit_or_lem x y c)) ((or_iff (bit x c) (bit y c)).1 (inr t))

-- ---- a test entered, at one variable after another

-- entered at the variables that are not left
pub record Watching (rests left row c : ℕ) (w x : List ℕ) : Type 0 where
  pub part : Left 32 rests left
  pub long : length x ≡ waiting_length
  pub kept : (r d : ℕ) → In w r d → In x r d
  pub entered : (l : ℕ) → l < 32 → T (bit rests l) → (T (bit left l) → ⊥) → In x (waits_at l row) c
  pub values : (k : ℕ) → triangles_from ≤ k → get_or x k 0 ≡ get_or w k 0

pub watching_none : (rests row c : ℕ) (w : List ℕ) → rests < 2 ^ 32 → length w ≡ waiting_length → Watching rests rests row c w w
watching_none rests row c w l e = record { part = left_all 32 rests l; long = e; kept = λ r d t. t; entered = λ v k t n. absurd (n t); values = λ k h. refl }

pub watching_more : {rests left row c : ℕ} {w x : List ℕ} → Watching rests left row c w x → row < rows → (b z : ℕ) → b < 32 → z ≡ bit_or (get_or x (waits_at b row) 0) (2 ^ c)
    → Watching rests (without 32 left b) row c w (set x (waits_at b row) z)
watching_more {rests} {left} {row} {c} {w} {x} W h b z k e =
    record {
      part = left_next b W.part;
      long = length-set x (waits_at b row) z ∙ W.long;
      kept = λ r d t. old r d (W.kept r d t);
      entered = λ v l t n. go v l t n (T_dec (bit left v));
      values = λ r l. get_or-set_other x (waits_at b row) r z 0 (λ q. absurd (omega arith)) ∙ W.values r l;
    }
  where
    place : waits_at b row < length x
    place = let a = W.long in omega arith

    old : (r d : ℕ) → In x r d → In (set x (waits_at b row) z) r d
    old r d = put_kept x (waits_at b row) z place r d (λ q t. subst (λ (y : ℕ). T (bit y d)) (sym e) (with_keeps (get_or x (waits_at b row) 0) c d t))

    here : In (set x (waits_at b row) z) (waits_at b row) c
    here = put_here x (waits_at b row) z c place (subst (λ (y : ℕ). T (bit y c)) (sym e) (with_has (get_or x (waits_at b row) 0) c))

    go : (v : ℕ) → v < 32 → T (bit rests v) → (T (bit (without 32 left b) v) → ⊥) → T (bit left v) ⊎ (T (bit left v) → ⊥) → In (set x (waits_at b row) z) (waits_at v row) c
    go v l t n (inl on) = subst (λ (v : ℕ). In (set x (waits_at b row) z) (waits_at v row) c) (sym (without_gone 32 bit_without32 left b k v l on n)) here
    go v l t n (inr off) = old (waits_at v row) c (W.entered v l t off)

pub watching_end : {rests left row c : ℕ} {w x : List ℕ} → Watching rests left row c w x → left ≡ 0 → Watched rests row c w x
watching_end W e = record { long = W.long; kept = W.kept; entered = λ l k t. W.entered l k t (T_not (ap (λ (y : ℕ). bit y l) e ∙ bit_none l)); values = W.values }

-- ---- a test that is pending no longer

pub learned_watched : {rests at row c : ℕ} {p w x : List ℕ} (z : ℕ) → at ≡ row → length p ≡ rows → at < rows → c < 16 → z ≡ without 16 (get_or p at 0) c → Watched rests at c w x → Learned rests row c p w (set p at z) x
learned_watched {rests} {at} {row} {c} {p} {w} {x} z f e h k q W =
    subst (λ (r : ℕ). Learned rests r c p w (set p at z) x) f
    (record {
      narrow = length-set p at z ∙ e;
      watched = W;
      pending = λ r d l t n. put_kept p at z (omega arith) r d (λ f u. subst (λ (y : ℕ). T (bit y d)) (sym q) (still d l u (λ g. n (f, g)))) t;
    })
  where
    still : (d : ℕ) → d < 16 → T (bit (get_or p at 0) d) → d ≢ c → T (bit (without 16 (get_or p at 0) c) d)
    still d l t n = subst T (sym (bit_without16 (get_or p at 0) c d k l)) ((and_iff (bit (get_or p at 0) d) (not (eqb d c))).1 (t, (not_iff (eqb d c)).1 (λ u. n ((eqb_iff d c).0 u))))

-- ---- what waits for l is pending, row after row

-- the rows below n are woken
pub record Waking (n l : ℕ) (p w q x : List ℕ) : Type 0 where
  pub narrow : length q ≡ rows
  pub long : length x ≡ waiting_length
  pub pending : (r d : ℕ) → In p r d → In q r d
  pub woken : (r d : ℕ) → r < n → In w (waits_at l r) d → In q r d
  pub kept : (k r d : ℕ) → r < rows → k ≢ l → In w (waits_at k r) d → In x (waits_at k r) d
  pub later : (r d : ℕ) → n ≤ r → In w (waits_at l r) d → In x (waits_at l r) d
  pub values : (k : ℕ) → triangles_from ≤ k → get_or x k 0 ≡ get_or w k 0

pub waking_none : (l : ℕ) (p w : List ℕ) → length p ≡ rows → length w ≡ waiting_length → Waking 0 l p w p w
waking_none l p w d e =
    record { narrow = d; long = e; pending = λ r d t. t; woken = λ r d h t. absurd (omega arith); kept = λ k r d h n t. t; later = λ r d h t. t; values = λ k h. refl }

pub waking_more : {n l : ℕ} {p w q x : List ℕ} → Waking n l p w q x → n < rows → l < 32
    → Waking (n + 1) l p w (set q n (bit_or (get_or q n 0) (get_or x (waits_at l n) 0))) (set x (waits_at l n) 0)
waking_more {n} {l} {p} {w} {q} {x} W h k =
    record {
      narrow = length-set q n z ∙ W.narrow;
      long = length-set x (waits_at l n) 0 ∙ W.long;
      pending = λ r d t. old r d (W.pending r d t);
      woken = λ r d m t. go r d t (lt_dec r n) m;
      kept = λ v r d m e t. put_other x (waits_at l n) 0 (waits_at v r) d (λ f. e (omega arith)) (W.kept v r d m e t);
      later = λ r d m t. put_other x (waits_at l n) 0 (waits_at l r) d (λ e. absurd (omega arith)) (W.later r d (omega arith) t);
      values = λ r m. get_or-set_other x (waits_at l n) r 0 0 (λ e. absurd (omega arith)) ∙ W.values r m;
    }
  where
    z : ℕ
    z = bit_or (get_or q n 0) (get_or x (waits_at l n) 0)

    place : n < length q
    place = let a = W.narrow in omega arith

    old : (r d : ℕ) → In q r d → In (set q n z) r d
    old r d = put_kept q n z place r d (λ e t. or_left (get_or q n 0) (get_or x (waits_at l n) 0) d t)

    here : (d : ℕ) → In x (waits_at l n) d → In (set q n z) n d
    here d t = put_here q n z d place (or_right (get_or q n 0) (get_or x (waits_at l n) 0) d t)

    go : (r d : ℕ) → In w (waits_at l r) d → (r < n) ⊎ (n ≤ r) → r < n + 1 → In (set q n z) r d
    go r d t (inl m) j = old r d (W.woken r d m t)
    go r d t (inr m) j =
        let e : r ≡ n = omega arith in
        subst (λ (r : ℕ). In (set q n z) r d) (sym e) (here d (W.later n d (omega arith) (subst (λ (r : ℕ). In w (waits_at l r) d) e t)))

pub waking_end : {n l : ℕ} {p w q x : List ℕ} → Waking n l p w q x → rows ≤ n → Woken l p w q x
waking_end W h = record { narrow = W.narrow; long = W.long; pending = λ r d m t. W.pending r d t; woken = λ r d m t. W.woken r d (omega arith) t; kept = W.kept; values = W.values }

-- ---- a triangle's value, stored before the triangle is entered

pub triangle_learned : {rests i j : ℕ} {p w q x : List ℕ} (v : ℕ) → i < 32 → j < 32 → length w ≡ waiting_length → Learned rests (row_of (triangle_group j) i) (j % 16) p (set w (triangle_at j i) v) q x → TriangleLearned rests i j v p w q x
triangle_learned {rests} {i} {j} {p} {w} v k l e E =
    record {
      narrow = E.narrow;
      long = E.watched.long;
      pending = E.pending;
      kept = λ r d m t. E.watched.kept r d (put_other w (triangle_at j i) v r d (λ f. absurd (omega arith)) t);
      entered = E.watched.entered;
      by = E.watched.values (triangle_at j i) (omega arith) ∙ get_or-set_same w (triangle_at j i) v 0 (omega arith);
      values = λ r m n. E.watched.values r m ∙ get_or-set_other w (triangle_at j i) r v 0 n;
    }

-- ---- the triangles that wait for value c of l are pending, one after another

-- the triangles of the variables below n are woken
pub record TrianglesWaking (n l c : ℕ) (p w q : List ℕ) : Type 0 where
  pub narrow : length q ≡ rows
  pub pending : (r d : ℕ) → In p r d → In q r d
  pub woken : (i : ℕ) → i < n → get_or w (triangle_at l i) 0 ≡ c → In q (row_of (triangle_group l) i) (l % 16)

pub triangles_waking_none : (l c : ℕ) (p w : List ℕ) → length p ≡ rows → TrianglesWaking 0 l c p w p
triangles_waking_none l c p w e = record { narrow = e; pending = λ r d t. t; woken = λ i h f. absurd (omega arith) }

pub triangles_waking_more : {n l c : ℕ} {p w q : List ℕ} → TrianglesWaking n l c p w q → n < 32 → l < 32 → (z from : ℕ) → z ≡ cond (eqb (get_or w from 0) c) (2 ^ (l % 16)) 0 → from ≡ triangle_at l n
    → TrianglesWaking (n + 1) l c p w (set q (row_of (triangle_group l) n) (bit_or (get_or q (row_of (triangle_group l) n) 0) z))
triangles_waking_more {n} {l} {c} {p} {w} {q} W h k z from e a =
    record {
      narrow = length-set q at y ∙ W.narrow;
      pending = λ r d t. old r d (W.pending r d t);
      woken = λ i m f. go i f (lt_dec i n) m;
    }
  where
    at : ℕ
    at = row_of (triangle_group l) n

    y : ℕ
    y = bit_or (get_or q at 0) z

    place : at < length q
    place = let a = W.narrow in omega arith

    old : (r d : ℕ) → In q r d → In (set q at y) r d
    old r d = put_kept q at y place r d (λ f t. or_left (get_or q at 0) z d t)

    one : get_or w (triangle_at l n) 0 ≡ c → T (bit z (l % 16))
    one f =
        let on = T_true (eqb (get_or w from 0) c) ((eqb_iff (get_or w from 0) c).1 (ap (λ (k : ℕ). get_or w k 0) a ∙ f)) in
        let is : z ≡ 2 ^ (l % 16) = e ∙ ap (λ b. cond b (2 ^ (l % 16)) 0) on in
        subst (λ (y : ℕ). T (bit y (l % 16))) (sym is) (subst T (sym (bit_single (l % 16) (l % 16))) ((eqb_iff (l % 16) (l % 16)).1 refl))

    go : (i : ℕ) → get_or w (triangle_at l i) 0 ≡ c → (i < n) ⊎ (n ≤ i) → i < n + 1 → In (set q at y) (row_of (triangle_group l) i) (l % 16)
    go i f (inl m) j = old (row_of (triangle_group l) i) (l % 16) (W.woken i m f)
    go i f (inr m) j =
        let d : i ≡ n = omega arith in
        subst (λ (i : ℕ). In (set q at y) (row_of (triangle_group l) i) (l % 16)) (sym d) (put_here q at y (l % 16) place (or_right (get_or q at 0) z (l % 16) (one (subst (λ (i : ℕ). get_or w (triangle_at l i) 0 ≡ c) d f))))

pub triangles_waking_end : {n l c : ℕ} {p w q : List ℕ} → TrianglesWaking n l c p w q → 32 ≤ n → TrianglesWoken l c p w q
triangles_waking_end W h = record { narrow = W.narrow; pending = λ r d m t. W.pending r d t; woken = λ i m f. W.woken i (omega arith) f }
