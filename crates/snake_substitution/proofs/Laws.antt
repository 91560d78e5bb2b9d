-- Snake substitution over words. Assumes nothing.
use Rattle.std.specs.Prelude.{Some, None}
use mathlib.Core.Path.{◌≡◌, sym, ap, ◌∙◌}
use mathlib.Core.Bool.{not}
use mathlib.Core.Logic.Iff
use mathlib.Core.Logic.{◌⊎◌, ◌≢◌, inl, inr, ◌↔◌, ⊎_elim}
use mathlib.Core.List.{List}
use Prim.Native.Nat.{ℕ, ◌<◌, ◌^◌}
use lib.Dec.{T, eqb}
use lib.Bits.{bit_and}
use lib.ListN.{get_or}
use borrow.Author.Tests.{eq-eqb, ne_eqb}
use Rattle.bounded.specs.Quantifiers.{imp, lowest}
use Rattle.bounded.specs.Mask.{bit}
use Rattle.bounded.proofs.Truth.{T_ext, T_of, T_not, T_true, T_false, T_dec, eq_dec, split, and_iff, imp_iff, imp_fails, not_iff}
use Rattle.bounded.proofs.Quantifiers.{lowest_least}
use Rattle.bounded.proofs.Members.{lowest_member}
use Rattle.bounded.proofs.Mask.{bit_and_lem, bit_none}
use Rattle.problem.specs.Problem.{Problem, State, substitution_spares}
use Rattle.problem.specs.Held.{row_word, held}
use Rattle.problem.specs.Masks.{state_of}
use Rattle.problem.specs.declared.Masks.{Masks}
use Rattle.problem.proofs.Reflect.{all_live_iff, any_live_iff, substitution_serves_iff}
use Rattle.problem.specs.Sentences.{Live, Allowed, Fits, Substitutes, SubstitutionServes}
use Rattle.held.specs.Ready.{Ready, Value, Near}
use Rattle.cover.specs.Words.{all_served_in, others, thirds}
use Rattle.cover.specs.Broken.{UnservedBy, UnservedIn}
use Rattle.snake_substitution.specs.Parts.{substitution_at, lowest_goal}
use Rattle.problem.specs.declared.Record.TheVariants as record·
use Rattle.held.proofs.Laws.{near_free, live_value, active_32, word_iff}
use Rattle.cover.proofs.Laws.{broken_at, all_served_in_iff, thirds_iff, other_apart}
use Rattle.problem.proofs.Search.{step_if_on, step_if_off, first_off, first_at, outside}

module _ {P : Problem} {s : State} (F : Fits P s) where
  substitution_at_iff : (i b a k : ℕ) → T (substitution_at P s i b a k) ↔ ((d : ℕ) → Live s k d → Allowed P i b k d → (e : ℕ) × Live s k e × SubstitutionServes P s substitution_spares i a k d e)
  unfolding substitution_at
  substitution_at_iff i b a k = simp (all_live_iff F, any_live_iff F, imp_iff, substitution_serves_iff F) Iff.rfl

-- the answer of the test is 0 exactly where each value is served: where it is not, each of `good` breaks for one
pub unserved_test : {P : Problem} {s : State} {rest good bad j r : ℕ} → Fits P s → UnservedIn P s rest good bad j r → eqb r 0 ≡ all_served_in P s rest good bad j
unserved_test {P} {s} {rest} {good} {bad} {j} {r} F u =
    ⊎_elim (λ e. eq-eqb r 0 e ∙ sym (T_true _ (u.served e))) (λ d. ne_eqb r 0 d ∙ sym (T_false _ (λ h. no (u.fails d) h))) (eq_dec r 0)
  where
    no : UnservedBy P s rest good bad j r → T (all_served_in P s rest good bad j) → ⊥
    no f h =
        let x = (all_served_in_iff F rest good bad j).0 h f.w f.small (f.asked, f.other) in
        let y = broken_at F f.broken x.0 x.2.0 (T_not (bit_none x.0)) in
        y.4 (x.2.1 y.0 y.1 y.3)

module _ {t : List ℕ} {m : Masks} (R : Ready t m) where
  -- slide: the values of k that are allowed with b are each served by one allowed with a; one allowed with both serves for itself
  pub substitution_word : (i b a k : ℕ) → i < 32 → k < 32 → all_served_in (held t) (state_of m) (thirds m.active i k) (bit_and (get_or m.domains k 0) (row_word (held t) i k a)) (bit_and (get_or m.domains k 0) (row_word (held t) i k b)) k ≡ substitution_at (held t) (state_of m) i b a k
  unfolding state_of
  substitution_word i b a k p q =
      T_ext (
        λ h. (substitution_at_iff R.fits i b a k).1 (λ d o al. to d o al (T_dec (bit good d)) ((all_served_in_iff R.fits set good bad k).0 h d (live_value R k d o).value)),
        λ h. (all_served_in_iff R.fits set good bad k).1
            (λ d lt x. let z = (is_bad d).0 x.0 in
            let y = (substitution_at_iff R.fits i b a k).0 h d z.0 z.1 in
            (y.0, (live_value R k y.0 y.1).value, ((is_good y.0).1 (y.1, y.2.0), λ l ll u. let w = (thirds_iff m.active i k l p q ll).0 u in y.2.1 l w.0.0 w.1 (λ n. w.0.1 n.1)))),
      )
    where
      set : ℕ
      set = thirds m.active i k

      good : ℕ
      good = bit_and (get_or m.domains k 0) (row_word (held t) i k a)

      bad : ℕ
      bad = bit_and (get_or m.domains k 0) (row_word (held t) i k b)

      is_good : (c : ℕ) → T (bit good c) ↔ (Live (state_of m) k c × Allowed (held t) i a k c)
      is_good c = word_iff R i a k c

      is_bad : (c : ℕ) → T (bit bad c) ↔ (Live (state_of m) k c × Allowed (held t) i b k c)
      is_bad c = word_iff R i b k c

      to : (d : ℕ) → Live (state_of m) k d → Allowed (held t) i b k d → T (bit good d) ⊎ (T (bit good d) → ⊥) → ((T (bit bad d) × (T (bit good d) → ⊥)) → ((u : ℕ) × (u < 16) × (T (bit good u) × ((l : ℕ) → l < 32 → T (bit set l) → Substitutes (held t) (state_of m) k u k d l)))) → (e : ℕ) × Live (state_of m) k e × SubstitutionServes (held t) (state_of m) substitution_spares i a k d e
      to d o al (inl g) f = (d, o, (((is_good d).0 g).1, λ l act ne sp c oc ac. ac))
      to d o al (inr g) f =
          let x = f ((is_bad d).1 (o, al), g) in
          let y = (is_good x.0).0 x.2.0 in
          (x.0, y.0, (y.1, λ l act ne sp. x.2.1 l (active_32 R l act) ((thirds_iff m.active i k l p q (active_32 R l act)).1 ((act, λ e. sp (tt, e)), ne))))

  -- a variable that has no block with i bars nothing with a: each of its values serves for itself, so each where the rule fails is a
  -- neighbour
  pub substitution_near : (rest i b a x : ℕ) → rest ≡ others m.active i → Value t i a → Near t i x → (k : ℕ) → k < 32 → T (not (imp (bit rest k) (substitution_at (held t) (state_of m) i b a k))) → T (bit (bit_and rest x) k)
  substitution_near rest i b a x e val near k l h =
      let y = imp_fails (bit rest k) (substitution_at (held t) (state_of m) i b a k) ((not_iff (imp (bit rest k) (substitution_at (held t) (state_of m) i b a k))).0 h) in
      let d = other_apart rest m.active i k e val.variable (T_true _ y.0) in
      simp (bit_and_lem, and_iff) (
        y.0,
        ⊎_elim
            (λ q. T_of q)
            (λ q. absurd (y.1 ((substitution_at_iff R.fits i b a k).1 (λ w o al. (w, o, (near_free R.table i a k x val near l d q w (R.fits.live_lt k w o), λ n act ne sp c oc ac. ac))))))
            (split (bit x k)),
      )

-- the lowest goal of a word
pub lowest_goal_none : (i b word : ℕ) → word ≡ 0 → None ≡ lowest_goal i b word
unfolding lowest_goal
lowest_goal_none i b word e = sym (first_off 16 _ (λ a l. step_if_off _ _ (ap (λ (x : ℕ). bit x a) e ∙ bit_none a)))

pub lowest_goal_at : (i b word : ℕ) → word < 2 ^ 16 → word ≢ 0 → Some (record·.SnakeSubstitution i b (lowest 16 (bit word))) ≡ lowest_goal i b word
unfolding lowest_goal
lowest_goal_at i b word l d =
    let m = lowest_member 16 word l d in
    sym (first_at 16 _ (lowest 16 (bit word)) _ m.0 (λ a k. outside _ _ (lowest_least 16 (bit word) a k)) (step_if_on _ _ (T_true _ m.1)))
