-- Sweeps: what one leaves, that one which changes nothing has come to the start, and that each other takes a value out. Assumes nothing.
use mathlib.Core.Path.{◌≡◌, refl, sym, ap, ◌∙◌, subst}
use mathlib.Core.Bool.{Bool, true, false, not, ◌&&◌, ◌||◌, and-true, not-not}
use mathlib.Core.Logic.{◌↔◌, ◌⊎◌, inl, inr, ⊎_elim, ◌≢◌}
use mathlib.Core.List.{List}
use Prim.Native.Nat.{ℕ, zero, suc, ◌+◌, ◌^◌, ◌≤◌, ◌<◌}
use native.Mathlib.Nat.{not-suc-le-zero}
use native.Mathlib.Omega.{arith}
use lib.Dec.{T, eqb}
use lib.ListN.{get_or}
use lib.Seq.{ext_get_or, get_or-set_same}
use borrow.Author.Tests.{eq-eqb, ne_eqb, eqb-true}
use Rattle.bounded.specs.Quantifiers.{any_below}
use Rattle.bounded.specs.Mask.{bit}
use Rattle.bounded.proofs.Truth.{clash, T_ext, T_not, T_dec, T_false, and_iff, or_iff, not_iff, eqb_iff, ltb_iff, eq_dec}
use Rattle.bounded.proofs.Quantifiers.{any_iff}
use Rattle.bounded.proofs.Loops.{all_each, all_intro}
use Rattle.bounded.proofs.Mask.{bit_none, bit_mask, mask_is, mask_lt, zero_bits}
use Rattle.problem.specs.Problem.{Problem, State, full, none_empty, all_active, all_live, live_count, max_variables}
use Rattle.problem.specs.Hand.{supported, prune, start}
use Rattle.problem.specs.Held.{held, RowTable}
use Rattle.problem.specs.Masks.{state_of, masks_of, Proper}
use Rattle.problem.specs.declared.Masks.{Masks}
use Rattle.problem.proofs.Reflect.{all_active_or, all_live_or, all_active_iff, all_live_iff, supported_iff, none_empty_iff}
use Rattle.problem.specs.Sentences.{Active, Live, Fits, Supported, ArcConsistent}
use Rattle.problem.proofs.Start.{start_active, start_consistent, start_largest, start_fits}
use Rattle.problem.proofs.Count.{count_falls}
use Rattle.problem.proofs.Bridge.{put_domain, masks_put, masks_is, masks_back}
use Rattle.held.specs.Ready.{Ready}
use Rattle.held.proofs.Laws.{live_value}
use Rattle.held.proofs.After.{state_held, ready_held}
use Rattle.held.proofs.Full.{full_ready, full_says}
use Rattle.support.specs.Words.{domain_left}
use Rattle.start.specs.Parts.{prune_at, prune_below, same_domains}

-- ---- one item

-- where some active variable is emptied, no value is left: it has no support there, or is one of that variable itself
pub emptied_left : (P : Problem) (s : State) → Fits P s → none_empty P s ≡ false → (i : ℕ) → 0 ≡ domain_left P s i
unfolding domain_left prune
emptied_left P s F e i = mask_is 16 0 ((prune P s).live i) (omega arith) (λ c l. bit_none c ∙ sym (T_false _ (λ h. T_not e ((none_empty_iff F).1 (λ k a. go c ((and_iff (s.live i c) (supported P s i c)).0 h) k a (eq_dec k i))))))
  where
    go : (c : ℕ) → T (s.live i c) × T (supported P s i c) → (k : ℕ) → Active s k → (k ≡ i) ⊎ (k ≢ i) → (b : ℕ) × Live s k b
    go c y k a (inl q) = (c, subst (λ (z : ℕ). Live s z c) (sym q) y.0)
    go c y k a (inr d) = let z = (supported_iff F i c).0 y.1 k a d in (z.0, z.1)

module _ (P : Problem) where
  at_live : {s : State} → Fits P s → (i k a : ℕ) → Live (prune_at P s i) k a ↔ (Live s k a × (k ≡ i → Supported P s k a))
  unfolding prune_at
  at_live {s} F i k a = (
    λ h. let x = (and_iff (s.live k a) (not (eqb k i) || supported P s k a)).0 h in
        (x.0, λ e. ⊎_elim (λ n. absurd ((not_iff (eqb k i)).0 n ((eqb_iff k i).1 e))) (λ y. (supported_iff F k a).0 y) ((or_iff (not (eqb k i)) (supported P s k a)).0 x.1)),
    λ y. (and_iff (s.live k a) (not (eqb k i) || supported P s k a)).1 (
      y.0,
      (or_iff (not (eqb k i)) (supported P s k a)).1 (⊎_elim (λ e. inr ((supported_iff F k a).1 (y.1 e))) (λ d. inl ((not_iff (eqb k i)).1 (λ q. d ((eqb_iff k i).0 q)))) (eq_dec k i)),
    ),
  )

  pub at_fits : {s : State} → Fits P s → (i : ℕ) → Fits P (prune_at P s i)
  unfolding prune_at
  at_fits F i =
      record { active_lt = F.active_lt; live_active = λ k a o. F.live_active k a ((at_live F i k a).0 o).0; live_lt = λ k a o. F.live_lt k a ((at_live F i k a).0 o).0 }

  -- no item in is without a setting afterwards: none was before, and i keeps one if it had one
  at_lasts : {s : State} → Fits P s → ((k a : ℕ) → Live s k a → a < 16) → (i : ℕ) → (none_empty P s && (any_below 16 ((prune_at P s i).live i) || not (any_below 16 (s.live i)))) ≡ none_empty P (prune_at P s i)
  unfolding prune_at
  at_lasts {s} F small i =
      T_ext (
        λ h. let x = (and_iff (none_empty P s) (some || not had)).0 h in
            let y = (none_empty_iff F).0 x.0 in
            (none_empty_iff (at_fits F i)).1 (λ k a. ⊎_elim
            (λ q. let z = kept (y i (subst (Active s) q a)) ((or_iff some (not had)).0 x.1) in (z.0, subst (λ (k : ℕ). Live r k z.0) (sym q) z.1))
            (λ d. let z = y k a in (z.0, (at_live F i k z.0).1 (z.1, λ q. absurd (d q))))
            (eq_dec k i)),
        λ h. let y = (none_empty_iff (at_fits F i)).0 h in
            (and_iff (none_empty P s) (some || not had)).1 (
              (none_empty_iff F).1 (λ k a. let z = y k a in (z.0, ((at_live F i k z.0).0 z.1).0)),
              (or_iff some (not had)).1 (stays (y i) (T_dec had)),
            ),
      )
    where
      r : State
      r = prune_at P s i

      some : Bool
      some = any_below 16 (r.live i)

      had : Bool
      had = any_below 16 (s.live i)

      kept : (a : ℕ) × Live s i a → T some ⊎ T (not had) → (a : ℕ) × Live r i a
      kept x (inl h) = let z = (any_iff 16 (r.live i)).0 h in (z.0, z.2)
      kept x (inr h) = absurd ((not_iff had).0 h ((any_iff 16 (s.live i)).1 (x.0, small i x.0 x.1, x.1)))

      stays : (Active s i → (a : ℕ) × Live r i a) → T had ⊎ (T had → ⊥) → T some ⊎ T (not had)
      stays y (inl h) =
          let x = (any_iff 16 (s.live i)).0 h in
          let z = y (F.live_active i x.0 x.2) in
          inl ((any_iff 16 (r.live i)).1 (z.0, small i z.0 ((at_live F i i z.0).0 z.1).0, z.1))
      stays y (inr n) = inr ((not_iff had).1 n)

  -- ---- the items one after another

  below_next : (k : ℕ) (s : State) → prune_at P (prune_below k P s) k ≡ prune_below (k + 1) P s
  unfolding prune_below
  below_next k s = let e : suc k ≡ k + 1 = omega arith in ap (λ (j : ℕ). prune_below j P s) e

  below_active : (k : ℕ) (s : State) → (prune_below k P s).active ≡ s.active
  unfolding prune_below prune_at
  below_active zero s = refl
  below_active (suc k) s = below_active k s

  below_fits : (k : ℕ) {s : State} → Fits P s → Fits P (prune_below k P s)
  unfolding prune_below
  below_fits zero F = F
  below_fits (suc k) F = at_fits (below_fits k F) k

  below_within : (k : ℕ) {s : State} → Fits P s → (i a : ℕ) → Live (prune_below k P s) i a → Live s i a
  unfolding prune_below
  below_within zero F i a o = o
  below_within (suc k) F i a o = below_within k F i a ((at_live (below_fits k F) k i a).0 o).0

  -- what is arc consistent within s stays
  below_keeps : (k : ℕ) {s : State} (r : State) → Fits P s → ArcConsistent P r → ((i : ℕ) → Active s i → Active r i) → ((i a : ℕ) → Live r i a → Live s i a) → (i a : ℕ) → Live r i a → Live (prune_below k P s) i a
  unfolding prune_below
  below_keeps zero r F C g h i a o = h i a o
  below_keeps (suc k) {s} r F C g h i a o =
      (at_live (below_fits k F) k i a).1 (
        below_keeps k r F C g h i a o,
        λ e j hj d. let x = C i a o j (g j (subst (λ (f : ℕ → Bool). T (f j)) (below_active k s) hj)) d in (x.0, below_keeps k r F C g h j x.0 x.1, x.2),
      )

  -- where no value went, each had its supports
  below_still : (k : ℕ) {s : State} → Fits P s → ((i a : ℕ) → Live s i a → Live (prune_below k P s) i a) → (i a : ℕ) → i < k → Live s i a → Supported P s i a
  unfolding prune_below
  below_still zero F h i a l o = absurd (not-suc-le-zero l)
  below_still (suc k) {s} F h i a l o = ⊎_elim here (λ d. below_still k F (λ i a o. ((at_live (below_fits k F) k i a).0 (h i a o)).0) i a (omega arith) o) (eq_dec i k)
    where
      here : i ≡ k → Supported P s i a
      here e j hj d =
          let x = ((at_live (below_fits k F) k i a).0 (h i a o)).1 e j (subst (λ (f : ℕ → Bool). T (f j)) (sym (below_active k s)) hj) d in
          (x.0, below_within k F j x.0 x.1, x.2)

  -- every value stays, or there are fewer
  below_less : (k : ℕ) {s : State} → Fits P s → ((i a : ℕ) → Live s i a → Live (prune_below k P s) i a) ⊎ (live_count P (prune_below k P s) < live_count P s)
  below_less k {s} F = go (all_active_or P s (λ i. all_live P s i (λ a. r.live i a)))
    where
      r : State
      r = prune_below k P s

      go : T (all_active P s (λ i. all_live P s i (λ a. r.live i a))) ⊎ ((i : ℕ) × Active s i × (T (all_live P s i (λ a. r.live i a)) → ⊥)) → ((i a : ℕ) → Live s i a → Live r i a) ⊎ (live_count P r < live_count P s)
      go (inl t) = inl (λ i a o. (simp (all_active_iff F, all_live_iff F) at t) i (F.live_active i a o) a o)
      go (inr x) = elim (all_live_or P s x.0 (λ a. r.live x.0 a)) [
        | inl t ↦ absurd (x.2 t)
        | inr y ↦ inr (count_falls P s r (below_within k F) x.0 y.0 (F.active_lt x.0 x.1) (F.live_lt x.0 y.0 y.1) y.1 y.2)
      ]

-- ---- over masks

module _ {t : List ℕ} {m : Masks} (R : Ready t m) where
  abbrev P : Problem
  P = held t

  abbrev s : State
  s = state_of m

  -- one domain stored
  pub at_masks : (i : ℕ) → i < 32 → put_domain m i (domain_left P s i) ≡ masks_of (prune_at P s i)
  unfolding domain_left prune_at prune state_of
  at_masks i p =
      masks_put m (prune_at P s i) i (domain_left P s i) R.proper p (mask_lt 16 ((prune P s).live i)) (λ k l. refl)
      (λ a l. bit_mask 16 ((prune P s).live i) a l ∙ ap (λ (z : Bool). s.live i a && (not z || supported P s i a)) (sym (eq-eqb i i refl)))
      (λ j a d. sym (and-true (s.live j a)) ∙ ap (λ (z : Bool). s.live j a && (not z || supported P s j a)) (sym (ne_eqb j i d)))

-- a sweep that has come to variable i, with the state in hand
pub record Swept (t : List ℕ) (m : Masks) (i : ℕ) (r : Masks) (lasts : Bool) : Type 0 where
  pub ready : Ready t r
  pub state : state_of r ≡ prune_below i (held t) (state_of m)
  pub lasting : lasts ≡ none_empty (held t) (state_of r)

pub swept_first : {t : List ℕ} {m : Masks} {lasts : Bool} → Ready t m → lasts ≡ none_empty (held t) (state_of m) → Swept t m 0 m lasts
unfolding prune_below
swept_first R e = record { ready = R; state = refl; lasting = e }

left_lt : (P : Problem) (s : State) (i : ℕ) → domain_left P s i < 2 ^ 16
unfolding domain_left
left_lt P s i = mask_lt 16 ((prune P s).live i)

-- a word has a member, or is 0
word_some : (x : ℕ) (f : ℕ → Bool) → x < 2 ^ 16 → bit x ≡ f → not (eqb x 0) ≡ any_below 16 f
word_some x f l e = ap not (zero_bits 16 x l) ∙ not-not (any_below 16 (bit x)) ∙ ap (any_below 16) e

module _ {t : List ℕ} {m : Masks} {i : ℕ} {r : Masks} {lasts : Bool} (S : Swept t m i r lasts) where
  pub swept_next : (left : ℕ) → i < 32 → left ≡ domain_left (held t) (state_of r) i → Swept t m (i + 1) (put_domain r i left) (lasts && (not (eqb left 0) || eqb (get_or r.domains i 0) 0))
  unfolding state_of
  swept_next left p q =
      record {
        ready = subst (Ready t) (sym e) (ready_held S.ready.table F);
        state = says ∙ ap (λ (s : State). prune_at (held t) s i) S.state ∙ below_next (held t) i (state_of m);
        lasting = lasts_on ∙ ap (none_empty (held t)) (sym says);
      }
    where
      F : Fits (held t) (prune_at (held t) (state_of r) i)
      F = at_fits (held t) S.ready.fits i

      e : put_domain r i left ≡ masks_of (prune_at (held t) (state_of r) i)
      e = ap (put_domain r i) q ∙ at_masks S.ready i p

      says : state_of (put_domain r i left) ≡ prune_at (held t) (state_of r) i
      says = ap state_of e ∙ state_held S.ready.table F

      small : left < 2 ^ 16
      small = subst (λ (x : ℕ). x < 2 ^ 16) (sym q) (left_lt (held t) (state_of r) i)

      stored : bit left ≡ (prune_at (held t) (state_of r) i).live i
      stored = ap bit (sym (get_or-set_same r.domains i left 0 (omega (arith, S.ready.proper.length_is)))) ∙ ap (λ (s : State). s.live i) says

      lasts_on : (lasts && (not (eqb left 0) || eqb (get_or r.domains i 0) 0)) ≡ none_empty (held t) (prune_at (held t) (state_of r) i)
      lasts_on =
          ap (λ (b : Bool). b && (not (eqb left 0) || eqb (get_or r.domains i 0) 0)) S.lasting
          ∙ ap (λ (b : Bool). none_empty (held t) (state_of r) && (b || eqb (get_or r.domains i 0) 0)) (word_some left ((prune_at (held t) (state_of r) i).live i) small stored)
          ∙ ap (λ (b : Bool). none_empty (held t) (state_of r) && (any_below 16 ((prune_at (held t) (state_of r) i).live i) || b)) (zero_bits 16 (get_or r.domains i 0) (S.ready.proper.domain_lt i p))
          ∙ at_lasts (held t) S.ready.fits (λ k a o. (live_value S.ready k a o).value) i

  pub swept_end : 32 ≤ i → i ≤ 32 → r ≡ masks_of (prune_below max_variables (held t) (state_of m))
  swept_end h l = let e : i ≡ 32 = omega arith in sym (masks_back r S.ready.proper) ∙ ap masks_of (S.state ∙ ap (λ (k : ℕ). prune_below k (held t) (state_of m)) e)

-- ---- sweeps until one changes nothing

-- a state on the way to the start: all items are in, and what the start has on is on
pub record Above (t : List ℕ) (m : Masks) : Type 0 where
  pub ready : Ready t m
  pub active : (state_of m).active ≡ (full (held t)).active
  pub over : (i a : ℕ) → Live (start (held t)) i a → Live (state_of m) i a

full_live : (P : Problem) (i a : ℕ) → i < P.n → a < P.size i → Live (full P) i a
unfolding full
full_live P i a p q = simp (and_iff, ltb_iff) (p, q)

pub above_full : {t : List ℕ} → RowTable t → Above t (masks_of (full (held t)))
above_full {t} R =
    record {
      ready = full_ready R;
      active = ap (λ (s : State). s.active) (full_says R);
      over = λ i a o. subst (λ (s : State). Live s i a) (sym (full_says R)) (within i a o);
    }
  where
    within : (i a : ℕ) → Live (start (held t)) i a → Live (full (held t)) i a
    within i a o = let F = start_fits (held t) in full_live (held t) i a (F.active_lt i (F.live_active i a o)) (F.live_lt i a o)

full_active_in : (P : Problem) (i : ℕ) → i < P.n → Active (full P) i
unfolding full
full_active_in P i l = (ltb_iff i P.n).1 l

-- two proper states of which the test says so have the same domains, and of one state it says so
domains_same : (x y : Masks) → Proper x → Proper y → same_domains x y ≡ true → x.domains ≡ y.domains
unfolding same_domains
domains_same x y p q e =
    ext_get_or 0 x.domains y.domains (p.length_is ∙ sym q.length_is)
    (λ i l. eqb-true _ _ (all_each (λ i. eqb (get_or x.domains i 0) (get_or y.domains i 0)) 32 e i (omega (arith, p.length_is))))

same_domains_lem : (x y : Masks) → x ≡ y → same_domains x y ≡ true
unfolding same_domains
same_domains_lem x y e = all_intro (λ i. eqb (get_or x.domains i 0) (get_or y.domains i 0)) 32 (λ i l. eq-eqb (get_or x.domains i 0) (get_or y.domains i 0) (ap (λ (z : Masks). get_or z.domains i 0) e))

module _ {t : List ℕ} {m : Masks} (A : Above t m) (r : Masks) (e : r ≡ masks_of (prune_below max_variables (held t) (state_of m))) where
  left_fits : Fits (held t) (prune_below max_variables (held t) (state_of m))
  left_fits = below_fits (held t) max_variables A.ready.fits

  left_says : state_of r ≡ prune_below max_variables (held t) (state_of m)
  left_says = ap state_of e ∙ state_held A.ready.table left_fits

  pub above_next : Above t r
  above_next =
      record {
        ready = subst (Ready t) (sym e) (ready_held A.ready.table left_fits);
        active = ap (λ (s : State). s.active) left_says ∙ below_active (held t) max_variables (state_of m) ∙ A.active;
        over = λ i a o. subst (λ (s : State). Live s i a) (sym left_says) (below_keeps (held t) max_variables (start (held t)) A.ready.fits (start_consistent (held t)) (λ i h. subst (λ (f : ℕ → Bool). T (f i)) (A.active ∙ sym (start_active (held t))) h) A.over i a o);
      }

  -- no domain changed: the state in hand is the start
  pub above_end : same_domains m r ≡ true → m ≡ masks_of (start (held t))
  unfolding state_of
  above_end h =
      masks_is m (start (held t)) A.ready.proper (λ k l. ap (λ (f : ℕ → Bool). f k) (A.active ∙ sym (start_active (held t))))
      (λ i a l k. T_ext (λ o. start_largest (held t) (state_of m) consistent all_in within i a o, λ o. A.over i a o))
    where
      all_in : (i : ℕ) → i < (held t).n → Active (state_of m) i
      all_in i l = subst (λ (f : ℕ → Bool). T (f i)) (sym A.active) (full_active_in (held t) i l)

      within : (i a : ℕ) → Live (state_of m) i a → (i < (held t).n) × (a < (held t).size i)
      within i a o = (A.ready.fits.active_lt i (A.ready.fits.live_active i a o), A.ready.fits.live_lt i a o)

      still : (i a : ℕ) → Live (state_of m) i a → Live (prune_below max_variables (held t) (state_of m)) i a
      still i a o =
          subst (λ (s : State). Live s i a) left_says (subst (λ (x : List ℕ). T (bit (get_or x i 0) a)) (domains_same m r A.ready.proper above_next.ready.proper h) o)

      consistent : ArcConsistent (held t) (state_of m)
      consistent i a o = below_still (held t) max_variables A.ready.fits still i a (live_value A.ready i a o).variable o

  -- a domain changed: there are fewer values
  pub above_less : same_domains m r ≡ false → live_count (held t) (state_of r) < live_count (held t) (state_of m)
  above_less h =
      subst (λ (s : State). live_count (held t) s < live_count (held t) (state_of m)) (sym left_says)
      (⊎_elim (λ f. absurd (clash (same_domains_lem m r (unchanged f)) h)) (λ l. l) (below_less (held t) max_variables A.ready.fits))
    where
      unchanged : ((i a : ℕ) → Live (state_of m) i a → Live (prune_below max_variables (held t) (state_of m)) i a) → m ≡ r
      unchanged f =
          masks_is m (prune_below max_variables (held t) (state_of m)) A.ready.proper (λ k l. ap (λ (g : ℕ → Bool). g k) (sym (below_active (held t) max_variables (state_of m))))
          (λ i a l k. T_ext (λ o. f i a o, λ o. below_within (held t) max_variables A.ready.fits i a o)) ∙ sym e
