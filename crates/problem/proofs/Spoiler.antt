-- The cover test: its answer is the lowest setting that spoils the cover, or that there is none, and every rule means what it meant while
-- the test said yes or no. And what is named of a record that is not lawful: where its cover breaks. Assumes nothing.
use Rattle.std.specs.Prelude.{Option, Some, None}
use mathlib.Core.Path.{◌≡◌, refl, ap, ◌∙◌}
use mathlib.Core.Bool.{Bool, true, false, not, ◌&&◌}
use mathlib.Core.Logic.Iff
use mathlib.Core.Logic.{inl, inr, ⊎_elim, ◌≢◌, ◌↔◌}
use Prim.Native.Nat.{ℕ, ◌<◌}
use lib.Dec.{T, eqb}
use Rattle.bounded.specs.Quantifiers.{imp}
use Rattle.bounded.proofs.Truth.{T_ext, T_dec, T_true, T_false, and_iff, imp_iff, not_iff, eqb_iff}
use Rattle.bounded.proofs.Quantifiers.{all_iff}
use Rattle.bounded.proofs.Loops.{lowest_or, at_lowest_is, at_lowest_none}
use Rattle.bounded.proofs.Causes.{cause_iff}
use Rattle.problem.specs.Problem.{Problem, State, all_live, all_other, all_third, none_empty, unspoilt, break_at, spoils, spoiler, snake_serves, triangle_serves, neighbourhood, substitution_serves, breaks, first_break, cover_asked}
use Rattle.problem.specs.Run.{holds_by, lawful_by, lawful, broken_cover}
use Rattle.problem.specs.declared.Record.{Record}
use Rattle.problem.specs.declared.Record.TheVariants.{Unsupported, Snake, Triangle, Neighbourhood, SnakeSubstitution}
use Rattle.problem.proofs.Reflect.{spoils_iff, unspoilt_none, unspoilt_iff, neighbourhood_iff, none_empty_iff}
use Rattle.problem.specs.Sentences.{Active, Fits, Substitutes}
use Rattle.problem.specs.Causes.{SpoilerSays, Breaks, BreakSays, CoverAsked, BreaksAt, Names}

-- ---- the test's answer

module _ {P : Problem} {s : State} (F : Fits P s) where
  -- The cover test answers so for this and for nothing else.
  pub spoiler_iff : (i a j b l : ℕ) (x : Option ℕ) → (spoiler P s i a j b l ≡ x) ↔ SpoilerSays P s i a j b l x
  unfolding spoiler
  spoiler_iff i a j b l = cause_iff (spoiler P s i a j b l) (SpoilerSays P s i a j b l) answers (⊎_elim found none (lowest_or f (P.size l)))
    where
      f : ℕ → Bool
      f = spoils P s i a j b l

      answers : (x : Option ℕ) → SpoilerSays P s i a j b l x → spoiler P s i a j b l ≡ x
      answers (Some c) h = at_lowest_is f Some None (P.size l) c (F.live_lt l c h.0.0) ((spoils_iff P s i a j b l c).1 h.0) (λ d k t. h.1 d k ((spoils_iff P s i a j b l d).0 t))
      answers None h = at_lowest_none f Some None (P.size l) (λ c k t. let x = (spoils_iff P s i a j b l c).0 t in x.1.1 (h c x.0 x.1.0))

      found : ((c : ℕ) × (c < P.size l) × T (f c) × ((d : ℕ) → d < c → T (f d) → ⊥)) → (x : Option ℕ) × SpoilerSays P s i a j b l x
      found x = (Some x.0, ((spoils_iff P s i a j b l x.0).0 x.2, λ d k y. x.3 d k ((spoils_iff P s i a j b l d).1 y)))

      none : ((c : ℕ) → c < P.size l → T (f c) → ⊥) → (x : Option ℕ) × SpoilerSays P s i a j b l x
      none x = (None, (unspoilt_iff F i a j b l).0 ((unspoilt_none P s i a j b l).1 (λ c k y. x c k ((spoils_iff P s i a j b l c).1 y))))

-- ---- the rules mean what they meant

module _ (P : Problem) (s : State) where
  -- the cover test as it was: yes or no
  abbrev pub cover_before : (i a j b l : ℕ) → Bool
  cover_before i a j b l = all_live P s l (λ c. imp (P.allowed j b l c) (P.allowed i a l c))

  -- in any state, fitting or not
  pub cover_as_before : (i a j b l : ℕ) → unspoilt (spoiler P s i a j b l) ≡ cover_before i a j b l
  unfolding all_live
  cover_as_before i a j b l =
      T_ext (
        λ t. simp (all_iff, imp_iff) (λ c k o y. elim (T_dec (P.allowed i a l c)) [ inl x ↦ x | inr n ↦ absurd ((unspoilt_none P s i a j b l).0 t c k (o, (y, n))) ]),
        λ h. (unspoilt_none P s i a j b l).1 (λ c k x. x.1.1 ((simp (all_iff, imp_iff) at h) c k x.0 x.1.0)),
      )

  pub snake_as_before : (i v j w w' : ℕ) → snake_serves P s i v j w w' ≡ (P.allowed i v j w' && all_third P s i j (λ l. cover_before j w' j w l))
  unfolding snake_serves
  snake_as_before i v j w w' = λ t. P.allowed i v j w' && all_third P s i j (λ l. cover_as_before j w' j w l t)

  pub triangle_as_before : (i j v u : ℕ) → triangle_serves P s i j v u ≡ (P.allowed i u j v && all_third P s i j (λ l. cover_before i u j v l))
  unfolding triangle_serves
  triangle_as_before i j v u = λ t. P.allowed i u j v && all_third P s i j (λ l. cover_as_before i u j v l t)

  pub neighbourhood_as_before : (i b a : ℕ) → neighbourhood P s i b a ≡ (s.live i b && (s.live i a && (not (eqb a b) && all_other P s i (λ l. cover_before i a i b l))))
  unfolding neighbourhood
  neighbourhood_as_before i b a = λ t. s.live i b && (s.live i a && (not (eqb a b) && all_other P s i (λ l. cover_as_before i a i b l t)))

  pub substitution_as_before : (spare : Bool) (i a k d e : ℕ) → substitution_serves P s spare i a k d e ≡ (P.allowed i a k e && all_other P s k (λ l. imp (not (spare && eqb l i)) (cover_before k e k d l)))
  unfolding substitution_serves
  substitution_as_before spare i a k d e = λ t. P.allowed i a k e && all_other P s k (λ l. imp (not (spare && eqb l i)) (cover_as_before k e k d l t))

-- ---- where a cover breaks

module _ {P : Problem} {s : State} (F : Fits P s) where
  pub breaks_iff : (i b a l : ℕ) → T (breaks P s i b a l) ↔ Breaks P s i b a l
  unfolding breaks
  breaks_iff i b a l = simp (and_iff, not_iff, eqb_iff, unspoilt_iff F) Iff.rfl

  pub break_iff : (i b a : ℕ) (x : Option (ℕ × ℕ)) → (first_break P s i b a ≡ x) ↔ BreakSays P s i b a x
  unfolding first_break
  break_iff i b a = cause_iff (first_break P s i b a) (BreakSays P s i b a) answers (⊎_elim found none (lowest_or f P.n))
    where
      f : ℕ → Bool
      f = breaks P s i b a

      g : ℕ → Option (ℕ × ℕ)
      g l = break_at l (spoiler P s i a i b l)

      answers : (x : Option (ℕ × ℕ)) → BreakSays P s i b a x → first_break P s i b a ≡ x
      answers (Some (l, c)) h =
          at_lowest_is f g None P.n l (F.active_lt l h.0.0.0) ((breaks_iff i b a l).1 h.0.0) (λ m k t. h.0.1 m k ((breaks_iff i b a m).0 t))
          ∙ ap (break_at l) ((spoiler_iff F i a i b l (Some c)).1 h.1)
      answers None h = at_lowest_none f g None P.n (λ l k t. let x = (breaks_iff i b a l).0 t in x.1.1 (h l x.0 x.1.0))

      found : ((l : ℕ) × (l < P.n) × T (f l) × ((m : ℕ) → m < l → T (f m) → ⊥)) → (x : Option (ℕ × ℕ)) × BreakSays P s i b a x
      found (l, k, t, h) = spoilt (spoiler P s i a i b l) refl
        where
          spoilt : (x : Option ℕ) → spoiler P s i a i b l ≡ x → (x : Option (ℕ × ℕ)) × BreakSays P s i b a x
          spoilt (Some c) e = (Some (l, c), (((breaks_iff i b a l).0 t, λ m n y. h m n ((breaks_iff i b a m).1 y)), (spoiler_iff F i a i b l (Some c)).0 e))
          spoilt None e = absurd (((breaks_iff i b a l).0 t).1.1 ((spoiler_iff F i a i b l None).0 e))

      none : ((l : ℕ) → l < P.n → T (f l) → ⊥) → (x : Option (ℕ × ℕ)) × BreakSays P s i b a x
      none h = (
        None,
        λ l o d. elim (T_dec (unspoilt (spoiler P s i a i b l))) [
          | inl t ↦ (unspoilt_iff F i a i b l).0 t
          | inr n ↦ absurd (h l (F.active_lt l o) ((breaks_iff i b a l).1 (o, (d, λ y. n ((unspoilt_iff F i a i b l).1 y)))))
        ],
      )

-- ---- what is named of a record that is not lawful

-- where the test passes, and where it fails
module _ (P : Problem) (s : State) (i b a : ℕ) where
  pub broken_asked : cover_asked P s i b a ≡ true → broken_cover P s (Neighbourhood i b a) ≡ first_break P s i b a
  unfolding broken_cover
  broken_asked e = rw (e, broken_cover)

  pub broken_unasked : cover_asked P s i b a ≡ false → broken_cover P s (Neighbourhood i b a) ≡ None
  unfolding broken_cover
  broken_unasked e = rw (e, broken_cover)

module _ {P : Problem} {s : State} (F : Fits P s) where
  -- what is named is on the sheet
  pub named_listed : (r : Record) (l c : ℕ) → BreaksAt P s r l c → (l < P.n) × (c < P.size l)
  named_listed (Neighbourhood i b a) l c h = (F.active_lt l h.0.0.0, F.live_lt l c h.1.0.0)
  named_listed (Unsupported i b k) l c h = absurd h
  named_listed (Snake i v) l c h = absurd h
  named_listed (Triangle i j) l c h = absurd h
  named_listed (SnakeSubstitution i b a) l c h = absurd h

  asked_iff : (i b a : ℕ) → T (cover_asked P s i b a) ↔ CoverAsked P s i b a
  unfolding cover_asked
  asked_iff i b a = simp (and_iff, not_iff, eqb_iff, none_empty_iff F) Iff.rfl

  asked_lawful : (i b a : ℕ) → CoverAsked P s i b a → ((l : ℕ) → Active s l → l ≢ i → Substitutes P s i a i b l) → T (lawful P s (Neighbourhood i b a))
  unfolding lawful_by holds_by
  asked_lawful i b a C h = (and_iff (none_empty P s) (neighbourhood P s i b a)).1 ((none_empty_iff F).1 C.1.1.1.1, (neighbourhood_iff F i b a).1 (C.1.1.1.0, (C.1.1.0, (C.1.0, h))))

  -- Of a record that is not lawful this is named, and nothing else: item and setting exactly where only the cover can be at fault, and
  -- then there always are such.
  pub names_iff : (r : Record) → (T (lawful P s r) → ⊥) → (x : Option (ℕ × ℕ)) → (broken_cover P s r ≡ x) ↔ Names P s r x
  unfolding broken_cover
  names_iff r n = cause_iff (broken_cover P s r) (Names P s r) (answers r) (some r n)
    where
      answers : (r : Record) (x : Option (ℕ × ℕ)) → Names P s r x → broken_cover P s r ≡ x
      answers (Neighbourhood i b a) (Some (l, c)) h = broken_asked P s i b a (T_true (cover_asked P s i b a) ((asked_iff i b a).1 h.0)) ∙ (break_iff F i b a (Some (l, c))).1 h.1
      answers (Neighbourhood i b a) None h = broken_unasked P s i b a (T_false (cover_asked P s i b a) (λ t. h ((asked_iff i b a).0 t)))
      answers (Unsupported i b k) (Some (l, c)) h = absurd h.0
      answers (Unsupported i b k) None h = refl
      answers (Snake i v) (Some (l, c)) h = absurd h.0
      answers (Snake i v) None h = refl
      answers (Triangle i j) (Some (l, c)) h = absurd h.0
      answers (Triangle i j) None h = refl
      answers (SnakeSubstitution i b a) (Some (l, c)) h = absurd h.0
      answers (SnakeSubstitution i b a) None h = refl

      asked : (i b a : ℕ) → (T (lawful P s (Neighbourhood i b a)) → ⊥) → CoverAsked P s i b a → (y : Option (ℕ × ℕ)) → BreakSays P s i b a y → (x : Option (ℕ × ℕ)) × Names P s (Neighbourhood i b a) x
      asked i b a n C (Some (l, c)) h = (Some (l, c), (C, h))
      asked i b a n C None h = absurd (n (asked_lawful i b a C h))

      some : (r : Record) → (T (lawful P s r) → ⊥) → (x : Option (ℕ × ℕ)) × Names P s r x
      some (Neighbourhood i b a) n =
          elim (T_dec (cover_asked P s i b a)) [
            | inl t ↦ asked i b a n ((asked_iff i b a).0 t) (first_break P s i b a) ((break_iff F i b a (first_break P s i b a)).0 refl)
            | inr t ↦ (None, λ C. t ((asked_iff i b a).1 C))
          ]
      some (Unsupported i b k) n = (None, λ h. h)
      some (Snake i v) n = (None, λ h. h)
      some (Triangle i j) n = (None, λ h. h)
      some (SnakeSubstitution i b a) n = (None, λ h. h)
