-- Failures last while the values stay that they rest on, and what each kind's failure rests on. Assumes nothing.
use mathlib.Core.Logic.{◌≢◌}
use Prim.Native.Nat.{ℕ}
use Rattle.problem.specs.Problem.{Problem, State, substitution_spares}
use Rattle.problem.specs.Sentences.{Active, Live, Allowed, Fits, Substitutes, Snake, Triangle, Neighbourhood, SnakeSubstitution}
use Rattle.rests.specs.Rests.{Below, Kept, Rests, Unserved}

-- ---- states that shrink

pub below_refl : (s : State) → Below s s
below_refl s = record { active = λ l h. h; live = λ l c o. o }

pub below_trans : {r q s : State} → Below r q → Below q s → Below r s
below_trans A B = record { active = λ l h. B.active l (A.active l h); live = λ l c o. B.live l c (A.live l c o) }

-- ---- failures last

module _ {P : Problem} {s : State} {X : State → Type 0} where
  -- a failure shows in the state itself
  pub rests_fails : {set : ℕ → ℕ → Type 0} → Fits P s → Rests P s X set → X s → ⊥
  rests_fails F R x = R s F (below_refl s) (λ l c w o. o) x

  -- it rests on more as well
  pub rests_more : {a b : ℕ → ℕ → Type 0} → Rests P s X a → ((l c : ℕ) → a l c → b l c) → Rests P s X b
  rests_more R f q F B K x = R q F B (λ l c w o. K l c (f l c w) o) x

-- what had nothing in its place has nothing later
pub unserved_kept : {P : Problem} {s q : State} {set : ℕ → ℕ → Type 0} {rest good : ℕ → Type 0} → Fits P q → Below q s → Kept s q set → (i j v : ℕ) → Unserved P s set rest good i j v
    → (u : ℕ) → Live q i u → good u → ((l : ℕ) → Active q l → rest l → Substitutes P q i u j v l) → ⊥
unserved_kept F B K i j v h u o g f =
    let b = h u (B.live i u o) g in
    b.3 (λ c on a. let still = K b.0 c (b.2 c) on in f b.0 (F.live_active b.0 c still) b.1 c still a)

-- ---- what the failure of each kind rests on

module _ {P : Problem} {s : State} {set : ℕ → ℕ → Type 0} where
  -- w of j is not allowed with v, and no value of j does in its place
  pub snake_rests : (i v j w : ℕ) → j ≢ i → Live s j w → set j w → (Allowed P i v j w → ⊥) → Unserved P s set (λ l. (l ≢ i) × (l ≢ j)) (λ u. Allowed P i v j u) j j w
      → Rests P s (λ q. Snake P q i v) set
  snake_rests i v j w d o m n h q F B K S =
      let on = K j w m o in
      let x = S.1 j (F.live_active j w on) d w on n in
      unserved_kept F B K j j w h x.0 x.1 x.2.0 (λ l a r. x.2.1 l a r.0 r.1)

  -- no value of i does in the place of v of j
  pub triangle_rests : (i j v : ℕ) → Live s j v → set j v → Unserved P s set (λ l. (l ≢ i) × (l ≢ j)) (λ u. Allowed P i u j v) i j v → Rests P s (λ q. Triangle P q i j) set
  triangle_rests i j v o m h q F B K S =
      let x = S.1.1.1 v (K j v m o) in
      unserved_kept F B K i j v h x.0 x.1 x.2.0 (λ l a r. x.2.1 l a r.0 r.1)

  -- no other value of i does in the place of b
  pub neighbourhood_rests : (i b : ℕ) → Unserved P s set (λ l. l ≢ i) (λ a. a ≢ b) i i b → Rests P s (λ q. (a : ℕ) × Neighbourhood P q i b a) set
  neighbourhood_rests i b h q F B K x = unserved_kept F B K i i b h x.0 x.1.1.0 x.1.1.1.0 (λ l a r. x.1.1.1.1 l a r)

  -- d of k is allowed with b, and no value of k does in its place beside a
  pub substitution_rests : (i b a k d : ℕ) → k ≢ i → Live s k d → set k d → Allowed P i b k d → Unserved P s set (λ l. (l ≢ i) × (l ≢ k)) (λ e. Allowed P i a k e) k k d
      → Rests P s (λ q. SnakeSubstitution P q substitution_spares i b a) set
  substitution_rests i b a k d n o m t h q F B K S =
      let on = K k d m o in
      let x = S.1.1.1 k (F.live_active k d on) n d on t in
      unserved_kept F B K k k d h x.0 x.1 x.2.0 (λ l c r. x.2.1 l c r.1 (λ y. r.0 y.1))
