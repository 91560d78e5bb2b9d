-- Each test of specs/Problem.antt holds exactly where its sentence of specs/Sentences.antt does, in a state that fits. Assumes nothing.
use Rattle.std.specs.Prelude.{Option, None}
use mathlib.Core.Path.{◌≡◌, refl, sym, subst}
use mathlib.Core.Bool.{Bool, true, false, not, ◌&&◌}
use mathlib.Core.Logic.Iff
use mathlib.Core.Logic.{◌⊎◌, inl, inr, ◌≢◌, ◌↔◌}
use Prim.Native.Nat.{ℕ, ◌<◌}
use lib.Dec.{T}
use Rattle.bounded.specs.Quantifiers.{imp, any_below, lowest, at_lowest}
use Rattle.bounded.proofs.Truth.{T_dec, and_iff, imp_iff, imp_fails, not_iff, eqb_iff, ltb_iff}
use Rattle.bounded.proofs.Quantifiers.{all_iff, any_iff, all_or, lowest_is}
use Rattle.problem.specs.Problem.{Problem, State, full, max_variables, max_values, all_active, all_live, any_live, lowest_live, all_other, all_third, state_fits, none_empty, unspoilt, spoils, spoiler, unsupported, snake_serves, snake, triangle_serves, triangle, neighbourhood, substitution_serves, snake_substitution, remove, eliminate}
use Rattle.problem.specs.Sentences.{Active, Live, Allowed, Fits, Spoils, Substitutes, Unsupported, SnakeServes, Snake, TriangleServes, Triangle, Neighbourhood, SubstitutionServes, SnakeSubstitution, Supported, ArcConsistent, Finished, NoneEmpty}
use Rattle.problem.specs.Hand.{supported, arc_consistent, finished}

pub turn : (P : Problem) (i a j b : ℕ) → Allowed P i a j b → Allowed P j b i a
turn P i a j b t = subst T (P.symmetric i a j b) t

pub full_fits : (P : Problem) → Fits P (full P)
unfolding full
full_fits P =
    record {
      active_lt = λ i h. (ltb_iff i P.n).0 h;
      live_active = λ i a o. (simp and_iff at o).0;
      live_lt = λ i a o. (ltb_iff a (P.size i)).0 (simp and_iff at o).1;
    }

-- what the test of cause 11 says, at the numbers that a state can name
pub fits_says : (P : Problem) (s : State) → T (state_fits P s) ↔ (((i : ℕ) → i < max_variables → Active s i → i < P.n) × ((i : ℕ) → i < max_variables → (a : ℕ) → a < max_values → Live s i a → Active s i × (a < P.size i)))
unfolding state_fits
fits_says P s = simp (and_iff, all_iff, imp_iff, ltb_iff) Iff.rfl

pub fits_test : {P : Problem} {s : State} → Fits P s → T (state_fits P s)
fits_test {P} {s} F = (fits_says P s).1 (λ i l h. F.active_lt i h, λ i l a m o. (F.live_active i a o, F.live_lt i a o))

-- ---- quantifiers

module _ {P : Problem} {s : State} (F : Fits P s) where
  pub all_live_iff : (l : ℕ) (f : ℕ → Bool) → T (all_live P s l f) ↔ ((c : ℕ) → Live s l c → T (f c))
  unfolding all_live
  all_live_iff l f = (λ t c o. (simp (all_iff, imp_iff) at t) c (F.live_lt l c o) o, λ h. simp (all_iff, imp_iff) (λ c lt o. h c o))

  pub any_live_iff : (l : ℕ) (f : ℕ → Bool) → T (any_live P s l f) ↔ ((c : ℕ) × Live s l c × T (f c))
  unfolding any_live
  any_live_iff l f = (
    λ t. let h = simp (any_iff, and_iff) at t in (h.0, h.2.0, h.2.1),
    λ h. simp (any_iff, and_iff) (h.0, F.live_lt l h.0 h.1, (h.1, h.2)),
  )

  pub all_active_iff : (f : ℕ → Bool) → T (all_active P s f) ↔ ((l : ℕ) → Active s l → T (f l))
  unfolding all_active
  all_active_iff f = (λ t l o. (simp (all_iff, imp_iff) at t) l (F.active_lt l o) o, λ h. simp (all_iff, imp_iff) (λ l lt o. h l o))

  pub all_other_iff : (i : ℕ) (f : ℕ → Bool) → T (all_other P s i f) ↔ ((l : ℕ) → Active s l → l ≢ i → T (f l))
  unfolding all_other
  all_other_iff i f = simp (all_active_iff, imp_iff, not_iff, eqb_iff) Iff.rfl

  pub all_third_iff : (i j : ℕ) (f : ℕ → Bool) → T (all_third P s i j f) ↔ ((l : ℕ) → Active s l → l ≢ i → l ≢ j → T (f l))
  unfolding all_third
  all_third_iff i j f = simp (all_active_iff, imp_iff, not_iff, eqb_iff) Iff.rfl

  -- where some value in the domain passes, the lowest is in the domain and passes
  pub lowest_live_is : (l : ℕ) (f : ℕ → Bool) → ((c : ℕ) × Live s l c × T (f c)) → Live s l (lowest_live P s l f) × T (f (lowest_live P s l f))
  unfolding lowest_live
  lowest_live_is l f x = (simp and_iff at (lowest_is (P.size l) (λ c. s.live l c && f c) (x.0, F.live_lt l x.0 x.1, simp and_iff (x.1, x.2)))).1

-- all pass, or one that fails is found
pub all_live_or : (P : Problem) (s : State) (l : ℕ) (f : ℕ → Bool) → T (all_live P s l f) ⊎ ((c : ℕ) × Live s l c × (T (f c) → ⊥))
unfolding all_live
all_live_or P s l f = elim (all_or (P.size l) (λ c. imp (s.live l c) (f c))) [ inl t ↦ inl t | inr x ↦ inr (let y = imp_fails (s.live l x.0) (f x.0) x.2 in (x.0, y.0, y.1)) ]

pub all_active_or : (P : Problem) (s : State) (f : ℕ → Bool) → T (all_active P s f) ⊎ ((l : ℕ) × Active s l × (T (f l) → ⊥))
unfolding all_active
all_active_or P s f = elim (all_or P.n (λ l. imp (s.active l) (f l))) [ inl t ↦ inl t | inr x ↦ inr (let y = imp_fails (s.active x.0) (f x.0) x.2 in (x.0, y.0, y.1)) ]

-- ---- the rules and their tests

-- whatever setting is answered, it says that the cover does not hold
unspoilt_at : (n : ℕ) (f : ℕ → Bool) (g : ℕ → Option ℕ) → ((c : ℕ) → unspoilt (g c) ≡ false) → unspoilt (at_lowest n f g None) ≡ not (any_below n f)
unfolding at_lowest
unspoilt_at n f g h = go (any_below n f)
  where
    go : (x : Bool) → unspoilt (elim x [ true ↦ g (lowest n f) | false ↦ None ]) ≡ not x
    go true = h (lowest n f)
    go false = refl

module _ (P : Problem) (s : State) where
  pub spoils_iff : (i a j b l c : ℕ) → T (spoils P s i a j b l c) ↔ Spoils P s i a j b l c
  unfolding spoils
  spoils_iff i a j b l c = simp (and_iff, not_iff) Iff.rfl

  unspoilt_any : (i a j b l : ℕ) → unspoilt (spoiler P s i a j b l) ≡ not (any_below (P.size l) (spoils P s i a j b l))
  unfolding spoiler
  unspoilt_any i a j b l = unspoilt_at (P.size l) (spoils P s i a j b l) _ (λ c. refl)

  -- the cover test's answer read as yes or no
  pub unspoilt_none : (i a j b l : ℕ) → T (unspoilt (spoiler P s i a j b l)) ↔ ((c : ℕ) → c < P.size l → Spoils P s i a j b l c → ⊥)
  unspoilt_none i a j b l =
      let any = any_below (P.size l) (spoils P s i a j b l) in (
        λ t c k x. (not_iff any).0 (subst T (unspoilt_any i a j b l) t) ((any_iff (P.size l) (spoils P s i a j b l)).1 (c, k, (spoils_iff i a j b l c).1 x)),
        λ h. subst T (sym (unspoilt_any i a j b l)) ((not_iff any).1 (λ t. let x = (any_iff (P.size l) (spoils P s i a j b l)).0 t in h x.0 x.1 ((spoils_iff i a j b l x.0).0 x.2))),
      )

module _ {P : Problem} {s : State} (F : Fits P s) where
  -- none spoils the cover where a covers b
  pub unspoilt_iff : (i a j b l : ℕ) → T (unspoilt (spoiler P s i a j b l)) ↔ Substitutes P s i a j b l
  unspoilt_iff i a j b l = (
    λ t c o y. elim (T_dec (P.allowed i a l c)) [ inl x ↦ x | inr n ↦ absurd ((unspoilt_none P s i a j b l).0 t c (F.live_lt l c o) (o, (y, n))) ],
    λ h. (unspoilt_none P s i a j b l).1 (λ c k x. x.1.1 (h c x.0 x.1.0)),
  )

  pub unsupported_iff : (i b k : ℕ) → T (unsupported P s i b k) ↔ Unsupported P s i b k
  unfolding unsupported
  unsupported_iff i b k = (
    λ t. let h = simp (and_iff, all_live_iff F, not_iff, eqb_iff) at t in (h.0, h.1.0, h.1.1.0, h.1.1.1),
    λ h. simp (and_iff, all_live_iff F, not_iff, eqb_iff) (h.0, (h.1, (h.2, h.3))),
  )

  pub snake_serves_iff : (i v j w w' : ℕ) → T (snake_serves P s i v j w w') ↔ SnakeServes P s i v j w w'
  unfolding snake_serves
  snake_serves_iff i v j w w' = simp (and_iff, all_third_iff F, unspoilt_iff) Iff.rfl

  pub snake_iff : (i v : ℕ) → T (snake P s i v) ↔ Snake P s i v
  unfolding snake
  snake_iff i v = simp (and_iff, all_other_iff F, all_live_iff F, any_live_iff F, imp_iff, not_iff, snake_serves_iff) Iff.rfl

  pub triangle_serves_iff : (i j v u : ℕ) → T (triangle_serves P s i j v u) ↔ TriangleServes P s i j v u
  unfolding triangle_serves
  triangle_serves_iff i j v u = simp (and_iff, all_third_iff F, unspoilt_iff) Iff.rfl

  pub triangle_iff : (i j : ℕ) → T (triangle P s i j) ↔ Triangle P s i j
  unfolding triangle
  triangle_iff i j = simp (and_iff, all_live_iff F, any_live_iff F, not_iff, eqb_iff, triangle_serves_iff) Iff.rfl

  pub neighbourhood_iff : (i b a : ℕ) → T (neighbourhood P s i b a) ↔ Neighbourhood P s i b a
  unfolding neighbourhood
  neighbourhood_iff i b a = simp (and_iff, all_other_iff F, not_iff, eqb_iff, unspoilt_iff) Iff.rfl

  pub substitution_serves_iff : (spare : Bool) (i a k d e : ℕ) → T (substitution_serves P s spare i a k d e) ↔ SubstitutionServes P s spare i a k d e
  unfolding substitution_serves
  substitution_serves_iff spare i a k d e = simp (and_iff, all_other_iff F, imp_iff, not_iff, eqb_iff, unspoilt_iff) Iff.rfl

  pub snake_substitution_iff : (spare : Bool) (i b a : ℕ) → T (snake_substitution P s spare i b a) ↔ SnakeSubstitution P s spare i b a
  unfolding snake_substitution
  snake_substitution_iff spare i b a = simp (and_iff, all_other_iff F, all_live_iff F, any_live_iff F, imp_iff, not_iff, eqb_iff, substitution_serves_iff) Iff.rfl

  pub supported_iff : (i a : ℕ) → T (supported P s i a) ↔ Supported P s i a
  unfolding supported
  supported_iff i a = simp (all_other_iff F, any_live_iff F) Iff.rfl

  pub arc_consistent_iff : T (arc_consistent P s) ↔ ArcConsistent P s
  unfolding arc_consistent
  arc_consistent_iff = (
    λ t i a o. (simp (all_active_iff F, all_live_iff F, supported_iff) at t) i (F.live_active i a o) a o,
    λ C. simp (all_active_iff F, all_live_iff F, supported_iff) (λ i h a o. C i a o),
  )

  pub finished_iff : T (finished P s) ↔ Finished P s
  unfolding finished
  finished_iff = (
    λ t i h v N. (simp (all_active_iff F, not_iff, any_live_iff F, snake_iff) at t) i h (v, N.0, N),
    λ f. simp (all_active_iff F, not_iff, any_live_iff F, snake_iff) (λ i h x. f i h x.0 x.2),
  )

  pub none_empty_iff : T (none_empty P s) ↔ NoneEmpty P s
  unfolding none_empty
  none_empty_iff = (
    λ t i h. let x = (simp (all_active_iff F, any_live_iff F) at t) i h in (x.0, x.1),
    λ f. simp (all_active_iff F, any_live_iff F) (λ i h. ((f i h).0, (f i h).1, tt)),
  )

-- ---- the steps

module _ (P : Problem) (s : State) where
  pub remove_live : (i b j w : ℕ) → Live (remove P s i b) j w ↔ (Live s j w × ((j ≡ i × w ≡ b) → ⊥))
  unfolding remove
  remove_live i b j w = simp (and_iff, not_iff, eqb_iff) Iff.rfl

  pub eliminate_active : (i j : ℕ) → Active (eliminate P s i) j ↔ (Active s j × j ≢ i)
  unfolding eliminate
  eliminate_active i j = simp (and_iff, not_iff, eqb_iff) Iff.rfl

  pub eliminate_live : Fits P s → (i j w : ℕ) → Live (eliminate P s i) j w ↔ (Live s j w × (j ≢ i × ((c : ℕ) × Live s i c × Allowed P j w i c)))
  unfolding eliminate
  eliminate_live F i j w = simp (and_iff, not_iff, eqb_iff, any_live_iff F) Iff.rfl

  pub remove_fits : Fits P s → (i b : ℕ) → Fits P (remove P s i b)
  unfolding remove
  remove_fits F i b =
      record {
        active_lt = F.active_lt;
        live_active = λ j w o. F.live_active j w ((remove_live i b j w).0 o).0;
        live_lt = λ j w o. F.live_lt j w ((remove_live i b j w).0 o).0;
      }

  pub eliminate_fits : Fits P s → (i : ℕ) → Fits P (eliminate P s i)
  eliminate_fits F i =
      record {
        active_lt = λ j h. F.active_lt j ((eliminate_active i j).0 h).0;
        live_active = λ j w o. let x = (eliminate_live F i j w).0 o in (eliminate_active i j).1 (F.live_active j w x.0, x.1.0);
        live_lt = λ j w o. F.live_lt j w ((eliminate_live F i j w).0 o).0;
      }
