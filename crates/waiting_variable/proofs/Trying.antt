-- The tests of a variable that are pending, tried one after another: where one finds a step, where it fails and waits, and where none is
-- left. Assumes nothing.
use Rattle.std.specs.Prelude.{Some, None}
use mathlib.Core.Path.{◌≡◌, sym, ap, ◌∙◌, subst}
use mathlib.Core.Bool.{Bool, true, false, not, ◌||◌}
use mathlib.Core.List.{List}
use mathlib.Core.Logic.{inl, inr, ⊎_elim, ◌≢◌}
use Prim.Native.Nat.{ℕ, ◌^◌, ◌<◌, ◌%◌}
use native.Mathlib.Nat.{lt_of_le_of_lt}
use native.Mathlib.Omega.{arith}
use lib.Bits.{bit_and, and_le_l}
use lib.Dec.{T, eqb}
use lib.ListN.{get_or}
use Rattle.bounded.specs.Quantifiers.{lowest}
use Rattle.bounded.specs.Mask.{bit, without}
use Rattle.bounded.proofs.Truth.{T_of, T_ext, T_true, T_false, T_dec, and_iff, or_iff, not_iff, eqb_iff}
use Rattle.bounded.proofs.Quantifiers.{lowest_least}
use Rattle.bounded.proofs.Mask.{bit_and_lem, bit_without16, bit_without32, member_some}
use Rattle.bounded.proofs.Members.{Sought, sought_all, sought_next, left_and, left_lowest, lowest_member}
use Rattle.problem.specs.Problem.{Problem, State, substitution_spares, neighbourhood}
use Rattle.problem.specs.Held.{held}
use Rattle.problem.specs.Masks.{state_of}
use Rattle.problem.specs.Run.{step_if, first, is_step}
use Rattle.problem.specs.declared.Masks.{Masks}
use Rattle.problem.specs.declared.Record.TheVariants as record·
use Rattle.problem.proofs.Reflect.{snake_iff, triangle_iff, neighbourhood_iff, snake_substitution_iff}
use Rattle.problem.proofs.Run.{first_each, step_if_none}
use Rattle.problem.proofs.Search.{step_if_on, first_ext, first_off, first_at, outside}
use Rattle.problem.specs.Sentences.{Live, Snake, Triangle, Neighbourhood}
use Rattle.rests.specs.Rests.{Rests, Of}
use Rattle.rests.proofs.Rests.{rests_fails}
use Rattle.waiting.specs.Waiting.{groups, row_of, triangle_group, substitutions, Passes, TrianglesPending, Waits, Learned, TriangleLearned}
use Rattle.waiting.proofs.Waiting.{waits_fails, waits_triangle_fails, waits_learned, waits_triangle_learned}
use Rattle.held.specs.Ready.{Ready}
use Rattle.held.proofs.Laws.{live_value}
use Rattle.held.proofs.Bounds.{not_active}
use Rattle.neighbourhood.specs.Parts.{NeighbourhoodTried}
use Rattle.triangle.specs.Parts.{TriangleTried}
use Rattle.triangle.specs.declared.Unserved.{Unserved}
use Rattle.snake_substitution.specs.Parts.{lowest_goal, AllTried}
use Rattle.search_order.specs.Lowest.{step_at, step_from}
use Rattle.search_order.proofs.Lowest.{made_holds, first_holds, Seeking}

-- the value of a turn: one of those that are sought, and left
pub value_turn : {f : ℕ → Bool} {set left v : ℕ} → Sought 16 f set left → left ≢ 0 → v ≡ lowest 16 (bit left) → (v < 16) × (bit set v ≡ true) × (without 16 left v < left)
value_turn {v = v} S d e = let k = left_lowest 16 bit_without16 S.left d e in (k.0, T_true _ (S.left.part v k.1), k.2)

module _ {t : List ℕ} {m : Masks} (R : Ready t m) where
  abbrev P : Problem
  P = held t

  abbrev s : State
  s = state_of m

  -- ---- what finds a step, as sentences

  pub snake_made : (i v : ℕ) → T (is_step (step_at P s 2 i v)) → Snake P s i v × Live s i v
  unfolding step_at
  snake_made i v h = let x = (snake_iff R.fits i v).0 (made_holds _ _ h) in (x, x.0)

  pub snake_found : (i v : ℕ) → Snake P s i v → step_at P s 2 i v ≡ Some (record·.Snake i v)
  unfolding step_at
  snake_found i v h = step_if_on _ _ (T_true _ ((snake_iff R.fits i v).1 h))

  triangle_made : (i j : ℕ) → T (is_step (step_at P s 3 i j)) → Triangle P s i j
  unfolding step_at
  triangle_made i j h = (triangle_iff R.fits i j).0 (made_holds _ _ h)

  pub triangle_found : (i j : ℕ) → Triangle P s i j → step_at P s 3 i j ≡ Some (record·.Triangle i j)
  unfolding step_at
  triangle_found i j h = step_if_on _ _ (T_true _ ((triangle_iff R.fits i j).1 h))

  pub neighbourhood_made : (i b : ℕ) → T (is_step (step_at P s 4 i b)) → ((a : ℕ) × Neighbourhood P s i b a) × Live s i b
  unfolding step_at
  neighbourhood_made i b h = let x = first_holds 16 _ _ h in let y = (neighbourhood_iff R.fits i b x.0).0 x.1 in ((x.0, y), y.0)

  -- the lowest of those that substitute for b
  pub neighbourhood_found : {left broken : ℕ} (i b a : ℕ) → NeighbourhoodTried P s i b left broken → left < 2 ^ 16 → left ≢ 0 → a ≡ lowest 16 (bit left) → step_at P s 4 i b ≡ Some (record·.Neighbourhood i b a)
  unfolding step_at
  neighbourhood_found {left} i b a K small d e =
      let low = lowest_member 16 left small d in
      first_at 16 (λ a. step_if (neighbourhood P s i b a) (record·.Neighbourhood i b a)) a (record·.Neighbourhood i b a) (omega (arith, low.0))
      (λ c q. outside _ _ (λ x. lowest_least 16 (bit left) c (omega arith) ((K.holds c).1 ((neighbourhood_iff R.fits i b c).0 x))))
      (step_if_on _ _ (T_true _ ((neighbourhood_iff R.fits i b a).1 ((K.holds a).0 (subst (λ (x : ℕ). T (bit left x)) (sym e) low.1)))))

  module _ (i : ℕ) (l : i < 32) where
    -- ---- kinds 2 and 4: the values of i

    -- in the state s the rule of a value's test passes and the value is in its domain, where it finds a step
    module _ (kind group : ℕ) (k : group < groups) (found : (c : ℕ) → T (is_step (step_at P s kind i c)) → Passes P group i c s × Live s i c) where
      -- what is not pending has failed, and what is not in the domain fails
      pub values_first : {p w : List ℕ} (x : ℕ) → x ≡ get_or p (row_of group i) 0 → Waits P s p w → Sought 16 (λ c. is_step (step_at P s kind i c)) (get_or m.domains i 0) (bit_and x (get_or m.domains i 0))
      unfolding state_of
      values_first {p} {w} x e H =
          record {
            left = left_and 16 (get_or m.domains i 0) x (R.proper.domain_lt i l);
            all = λ c q h. let y = found c h in
                simp (bit_and_lem, and_iff) (subst (λ (x : ℕ). T (bit x c)) (sym e) (elim (T_dec (bit (get_or p (row_of group i) 0) c)) [ inl z ↦ z | inr n ↦ absurd (waits_fails R.fits H group i c k l q n y.0) ]), y.1);
          }

      -- one that fails waits for what that rests on
      pub values_next : {p w q x : List ℕ} {set left rests : ℕ} (c : ℕ) → Sought 16 (λ c. is_step (step_at P s kind i c)) set left → Waits P s p w → c < 16 → Learned rests (row_of group i) c p w q x → rests < 2 ^ 32
          → Rests P s (Passes P group i c) (Of rests)
          → Sought 16 (λ c. is_step (step_at P s kind i c)) set (without 16 left c) × Waits P s q x
      values_next c S H q E small Q = (sought_next 16 bit_without16 S q (T_false _ (λ h. rests_fails R.fits Q (found c h).0)), waits_learned H group i c k l q E Q small)

    -- ---- kind 3: the other variables

    -- what is not pending has failed, and what is not active fails
    pub triangles_first : {p w : List ℕ} {x : ℕ} → TrianglesPending p i x → Waits P s p w → Seeking P s 3 i (without 32 (bit_and m.active x) i) (without 32 (bit_and m.active x) i)
    unfolding state_of
    triangles_first {p} {w} {x} K H =
        sought_all 32 _ _ (lt_of_le_of_lt (and_le_l _ _) (lt_of_le_of_lt (and_le_l m.active _) R.proper.active_lt))
        (λ j q h. let y = triangle_made i j h in
        subst T (sym (bit_without32 (bit_and m.active x) i j l q)) ((and_iff (bit (bit_and m.active x) j) (not (eqb j i))).1 (
          simp (bit_and_lem, and_iff) (
            y.1.0,
            subst T (sym (K.at j q)) (elim (T_dec (bit (get_or p (row_of (triangle_group j) i) 0) (j % 16))) [ inl z ↦ z | inr n ↦ absurd (waits_triangle_fails R.fits H i j l q n y) ]),
          ),
          (not_iff (eqb j i)).1 (λ z. y.1.1.0 ((eqb_iff j i).0 z)),
        )))

    -- one that fails waits for what that rests on
    pub triangles_next : {p w q x : List ℕ} {set left : ℕ} (j : ℕ) (u : Unserved) → Seeking P s 3 i set left → Waits P s p w → j < 32 → TriangleLearned u.rests i j u.value p w q x → u.rests < 2 ^ 32 → TriangleTried P s i j (Some u)
        → Seeking P s 3 i set (without 32 left j) × Waits P s q x
    triangles_next j u S H q E small K =
        let Q = K.1 in
        (sought_next 32 bit_without32 S q (T_false _ (λ h. rests_fails R.fits Q (triangle_made i j h))), waits_triangle_learned H i j u.value l q E small Q)

    pub triangles_off : bit m.active i ≡ false → step_from P s 3 i ≡ None
    unfolding step_from step_at
    triangles_off e = first_off 32 _ (λ j q. outside _ _ (λ x. not_active R i e ((triangle_iff R.fits i j).0 x).0))

    -- ---- kind 5: all values of i at once

    module _ {goals : List ℕ} {rests : ℕ} (K : AllTried P s i goals rests) where
      -- the lowest goal left is the lowest step
      pub goals_first : first 16 (λ b. lowest_goal i b (get_or goals b 0)) ≡ step_from P s 5 i
      unfolding lowest_goal step_from step_at
      goals_first = first_ext 16 _ _ (λ b. first_ext 16 _ _ (λ a. ap (λ (h : Bool). step_if h (record·.SnakeSubstitution i b a)) (T_ext (
        λ h. (snake_substitution_iff R.fits substitution_spares i b a).1 ((K.holds b a).0 h),
        λ h. (K.holds b a).1 ((snake_substitution_iff R.fits substitution_spares i b a).0 h),
      ))))

      -- where there is no step, no goal is left
      pub goals_rest : step_from P s 5 i ≡ None → Rests P s (Passes P substitutions i 0) (Of rests)
      unfolding step_from step_at
      goals_rest e =
          K.fails (λ b a h. let S = (K.holds b a).0 h in
          step_if_none _ (record·.SnakeSubstitution i b a) (first_each 16 _ (first_each 16 _ e b (live_value R i b S.0).value) a (live_value R i a S.1.0).value) ((snake_substitution_iff R.fits substitution_spares i b a).1 S))

    -- a test that is not pending has failed, and an empty domain has no step
    pub goals_none : {p w : List ℕ} → Waits P s p w → (word : ℕ) (has : Bool) → word ≡ get_or p (row_of substitutions i) 0 → has ≡ bit word 0 → (not has || eqb (get_or m.domains i 0) 0) ≡ true → step_from P s 5 i ≡ None
    unfolding state_of step_from step_at
    goals_none H word has f e h =
        first_off 16 _ (λ b q. first_off 16 _ (λ a r. outside _ _ (λ x.
        let S = (snake_substitution_iff R.fits substitution_spares i b a).0 x in
        ⊎_elim
        (λ t. waits_fails R.fits H substitutions i 0 (omega arith) l (omega arith) (λ u. (not_iff has).0 t (subst T (sym (e ∙ ap (λ (z : ℕ). bit z 0) f)) u)) (b, a, S))
        (λ t. member_some (get_or m.domains i 0) b S.0 ((eqb_iff (get_or m.domains i 0) 0).0 t))
        ((or_iff (not has) (eqb (get_or m.domains i 0) 0)).0 (T_of h)))))
