-- The snake rule over words, and what its failure rests on. Assumes nothing.
use mathlib.Core.Path.{◌≡◌, sym, subst}
use mathlib.Core.Bool.{true, false, not, ◌&&◌}
use mathlib.Core.Logic.Iff
use mathlib.Core.Logic.{inl, inr, ⊎_elim, ◌≢◌, ◌↔◌}
use mathlib.Core.List.{List}
use Prim.Native.Nat.{ℕ, ◌<◌}
use lib.Dec.{T, eqb}
use lib.Bits.{bit_and}
use lib.ListN.{get_or}
use borrow.Author.Tests.{not-false}
use Rattle.bounded.specs.Quantifiers.{imp}
use Rattle.bounded.specs.Mask.{bit, mask_of}
use Rattle.bounded.proofs.Truth.{T_ext, T_of, T_not, T_true, T_false, T_dec, split, and_iff, imp_iff, imp_fails, not_iff, eqb_iff}
use Rattle.bounded.proofs.Mask.{bit_and_lem, bit_none, mask_is}
use Rattle.problem.specs.Problem.{Problem, State, snake_serves, snake}
use Rattle.problem.specs.Held.{row_word, held}
use Rattle.problem.specs.Masks.{state_of}
use Rattle.problem.specs.declared.Masks.{Masks}
use Rattle.problem.proofs.Reflect.{all_live_iff, any_live_iff, snake_serves_iff, snake_iff}
use Rattle.problem.specs.Sentences.{Active, Live, Allowed, Fits, SnakeServes, Snake as SnakeHolds}
use Rattle.rests.specs.Rests.{Tried}
use Rattle.rests.proofs.Rests.{rests_fails, snake_rests}
use Rattle.held.specs.Ready.{Ready, Value, Near}
use Rattle.cover.specs.Words.{servers_in, all_served_in, others, thirds}
use Rattle.cover.specs.Broken.{UnservedIn}
use Rattle.snake.specs.Parts.{snake_at, AtOther}
use Rattle.held.proofs.Laws.{near_free, live_value, active_32, word_iff, bit_value}
use Rattle.cover.proofs.Laws.{broken_at, servers_in_iff, servers_lt, all_served_in_iff, thirds_iff, others_iff, other_apart}

module _ {P : Problem} {s : State} (F : Fits P s) where
  snake_at_iff : (i v j : ℕ) → T (snake_at P s i v j) ↔ ((w : ℕ) → Live s j w → (Allowed P i v j w → ⊥) → (w' : ℕ) × Live s j w' × SnakeServes P s i v j w w')
  unfolding snake_at
  snake_at_iff i v j = simp (all_live_iff F, any_live_iff F, imp_iff, not_iff, snake_serves_iff F) Iff.rfl

  -- what a test answers, as a truth value
  pub tried_snake : (i v r : ℕ) → Tried P s (λ q. SnakeHolds P q i v) r → eqb r 0 ≡ snake P s i v
  tried_snake i v r K =
      T_ext (
        λ t. (snake_iff F i v).1 (K.holds ((eqb_iff r 0).0 t)),
        λ t. elim (T_dec (eqb r 0)) [ inl e ↦ e | inr n ↦ absurd (rests_fails F (K.fails (λ e. n ((eqb_iff r 0).1 e))) ((snake_iff F i v).0 t)) ],
      )

-- a variable at which the rule asks nothing in vain is passed
pub snake_passed : {P : Problem} {s : State} (rest : ℕ) {i v j r : ℕ} → AtOther P s i v j r → r ≡ 0 → not (imp (bit rest j) (snake_at P s i v j)) ≡ false
snake_passed {P} {s} rest {i} {v} {j} A e = T_false _ (λ t. (not_iff (imp (bit rest j) (snake_at P s i v j))).0 t ((imp_iff (bit rest j) (snake_at P s i v j)).1 (λ u. A.holds e)))

module _ {t : List ℕ} {m : Masks} (R : Ready t m) (i v j : ℕ) (p : i < 32) (q : j < 32) where
  -- the values of j that are allowed with v
  abbrev good : ℕ
  good = bit_and (get_or m.domains j 0) (row_word (held t) i j v)

  -- the set of the third variables
  thirds_all : {X : ℕ → Type 0} → ((l : ℕ) → l < 32 → T (bit (thirds m.active i j) l) → X l) ↔ ((l : ℕ) → Active (state_of m) l → l ≢ i → l ≢ j → X l)
  unfolding state_of
  thirds_all = (
    λ h l a di dj. h l (active_32 R l a) ((thirds_iff m.active i j l p q (active_32 R l a)).1 ((a, di), dj)),
    λ h l k u. let z = (thirds_iff m.active i j l p q k).0 u in h l z.0.0 z.0.1 z.1,
  )

  -- the values that serve in the place of w
  pub servers_word : (w : ℕ) → servers_in (held t) (state_of m) (thirds m.active i j) good j j w ≡ mask_of 16 (λ c. (state_of m).live j c && snake_serves (held t) (state_of m) i v j w c)
  servers_word w =
      mask_is 16 _ _ (servers_lt (held t) (state_of m) (thirds m.active i j) good j j w)
      (λ c k. T_ext (
        λ h. let x = (servers_in_iff R.fits (thirds m.active i j) good j j w c).0 h in
            let y = (word_iff R i v j c).0 x.1 in
            (and_iff ((state_of m).live j c) (snake_serves (held t) (state_of m) i v j w c)).1 (y.0, (snake_serves_iff R.fits i v j w c).1 (y.1, thirds_all.0 x.2)),
        λ h. let x = (and_iff ((state_of m).live j c) (snake_serves (held t) (state_of m) i v j w c)).0 h in
            let y = (snake_serves_iff R.fits i v j w c).0 x.1 in
            (servers_in_iff R.fits (thirds m.active i j) good j j w c).1 (k, (word_iff R i v j c).1 (x.0, y.0), thirds_all.1 y.1),
      ))

  -- the values of j that are not allowed with v are each served by one that is
  snake_word : T (all_served_in (held t) (state_of m) (thirds m.active i j) good (get_or m.domains j 0) j) → T (snake_at (held t) (state_of m) i v j)
  unfolding state_of
  snake_word h =
      (snake_at_iff R.fits i v j).1
      (λ w o n. let x = (all_served_in_iff R.fits (thirds m.active i j) good (get_or m.domains j 0) j).0 h w (live_value R j w o).value (o, λ g. n ((word_iff R i v j w).0 g).1) in
      let y = (word_iff R i v j x.0).0 x.2.0 in
      (x.0, y.0, (y.1, thirds_all.0 x.2.1)))

  -- or one is not, and that rests on j and on what breaks the candidates
  pub other_at : (r : ℕ) → j ≢ i → UnservedIn (held t) (state_of m) (thirds m.active i j) good (get_or m.domains j 0) j r → AtOther (held t) (state_of m) i v j r
  unfolding state_of
  other_at r d U =
      record {
        holds = λ e. snake_word (U.served e);
        fails =
            λ n. let f = U.fails n in
            snake_rests i v j f.w d f.asked f.own (λ al. f.other ((word_iff R i v j f.w).1 (f.asked, al)))
            (λ u o g.
            let b = broken_at R.fits f.broken u ((word_iff R i v j u).1 (o, g)) (T_not (bit_none u)) in
            let z = (thirds_iff m.active i j b.0 p q b.1).0 b.3 in
            (b.0, (z.0.1, z.1), λ c. b.2, b.4));
      }

module _ {t : List ℕ} {m : Masks} (R : Ready t m) where
  -- a variable that has no block with i bars nothing with v, so each where the rule fails is a neighbour
  pub snake_near : (rest i v x : ℕ) → rest ≡ others m.active i → Value t i v → Near t i x → (j : ℕ) → j < 32 → T (not (imp (bit rest j) (snake_at (held t) (state_of m) i v j))) → T (bit (bit_and rest x) j)
  snake_near rest i v x e val near j l h =
      let y = imp_fails (bit rest j) (snake_at (held t) (state_of m) i v j) ((not_iff (imp (bit rest j) (snake_at (held t) (state_of m) i v j))).0 h) in
      let d = other_apart rest m.active i j e val.variable (T_true _ y.0) in
      simp (bit_and_lem, and_iff) (
        y.0,
        ⊎_elim
            (λ q. T_of q)
            (λ q. absurd (y.1 ((snake_at_iff R.fits i v j).1 (λ w o n. absurd (n (near_free R.table i v j x val near l d q w (R.fits.live_lt j w o)))))))
            (split (bit x j)),
      )

  -- where it fails at none, it holds
  pub snake_all : (rest i v : ℕ) → rest ≡ others m.active i → bit (get_or m.domains i 0) v ≡ true → ((j : ℕ) → j < 32 → T (not (imp (bit rest j) (snake_at (held t) (state_of m) i v j))) → ⊥) → SnakeHolds (held t) (state_of m) i v
  unfolding state_of
  snake_all rest i v e o h = (
    T_of o,
    λ j a d. let l = active_32 R j a in
        let u : T (bit rest j) = subst (λ (x : ℕ). T (bit x j)) (sym e) ((others_iff m.active i j (bit_value R i v o).variable l).1 (a, d)) in
        (snake_at_iff R.fits i v j).0 ((imp_iff (bit rest j) (snake_at (held t) (state_of m) i v j)).0 (T_of (not-false (imp (bit rest j) (snake_at (held t) (state_of m) i v j)) (T_false _ (h j l)))) u),
  )
