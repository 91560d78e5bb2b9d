-- What undoing one record does to a plan, sentence by sentence. Assumes nothing.
use mathlib.Core.Path.{◌≡◌, refl, ap, ◌∙◌}
use mathlib.Core.Bool.{Bool, true, false, not, ◌&&◌}
use mathlib.Core.Logic.{◌≢◌}
use Prim.Native.Nat.{ℕ, ◌<◌}
use lib.Dec.{T, eqb}
use Rattle.bounded.proofs.Truth.{T_true, T_false, and_iff, not_iff, eqb_iff}
use Rattle.bounded.proofs.Quantifiers.{lowest_least}
use Rattle.problem.specs.Problem.{Problem, State, lowest_live, snake, snake_serves, triangle, triangle_serves}
use Rattle.problem.specs.PutBack.{repair, undo}
use Rattle.problem.specs.declared.Record.TheVariants.{Unsupported, Snake, Triangle, Neighbourhood, SnakeSubstitution}
use Rattle.problem.proofs.Reflect.{lowest_live_is, snake_serves_iff, snake_iff, triangle_serves_iff, triangle_iff}
use Rattle.problem.specs.Sentences.{Active, Live, Allowed, Fits, SnakeServes, TriangleServes}
use Rattle.problem.proofs.Sound.{put_same, put_other}

-- no live value below the lowest live one passes
lowest_live_lem : (P : Problem) (s : State) (l : ℕ) (f : ℕ → Bool) (c : ℕ) → c < lowest_live P s l f → Live s l c → T (f c) → ⊥
unfolding lowest_live
lowest_live_lem P s l f c h o t = lowest_least (P.size l) (λ c. s.live l c && f c) c h ((and_iff (s.live l c) (f c)).1 (o, t))

-- "Kinds 1, 4, 5 change nothing."
module _ (P : Problem) (s : State) (p : ℕ → ℕ) (i b a : ℕ) where
  pub unsupported_undone : undo P s (Unsupported i b a) p ≡ p
  unfolding undo
  unsupported_undone = refl

  pub neighbourhood_undone : undo P s (Neighbourhood i b a) p ≡ p
  unfolding undo
  neighbourhood_undone = refl

  pub substitution_undone : undo P s (SnakeSubstitution i b a) p ≡ p
  unfolding undo
  substitution_undone = refl

module _ {P : Problem} {s : State} (F : Fits P s) (p : ℕ → ℕ) where
  -- "Kind 2 gives i the setting v, then changes each other item's setting that is barred with v to the lowest w' the rule allows."
  module _ (i v : ℕ) where
    pub snake_gives : undo P s (Snake i v) p i ≡ v
    unfolding undo
    snake_gives = put_same i v (repair P s i v p)

    module _ (j : ℕ) (d : j ≢ i) where
      repaired : (b : Bool) → (s.active j && (not (eqb j i) && not (P.allowed i v j (p j)))) ≡ b
          → undo P s (Snake i v) p j ≡ elim b as (λ x. ℕ) [ true ↦ lowest_live P s j (λ w'. snake_serves P s i v j (p j) w') | false ↦ p j ]
      unfolding undo repair
      repaired b e = put_other i v (repair P s i v p) j d ∙ ap (λ (x : Bool). elim x as (λ y. ℕ) [ true ↦ lowest_live P s j (λ w'. snake_serves P s i v j (p j) w') | false ↦ p j ]) e

      -- items out, and settings that are allowed with v, stay
      pub snake_leaves : (Active s j → Allowed P i v j (p j)) → undo P s (Snake i v) p j ≡ p j
      snake_leaves h = repaired false (T_false _ (λ t. let x = (and_iff (s.active j) (not (eqb j i) && not (P.allowed i v j (p j)))).0 t in (not_iff (P.allowed i v j (p j))).0 ((and_iff (not (eqb j i)) (not (P.allowed i v j (p j)))).0 x.1).1 (h x.0)))

      pub snake_changes : T (snake P s i v) → Active s j → Live s j (p j) → (Allowed P i v j (p j) → ⊥)
          → Live s j (undo P s (Snake i v) p j)
          × SnakeServes P s i v j (p j) (undo P s (Snake i v) p j)
          × ((w : ℕ) → w < undo P s (Snake i v) p j → Live s j w → SnakeServes P s i v j (p j) w → ⊥)
      snake_changes t h o n =
          let f : ℕ → Bool = λ w'. snake_serves P s i v j (p j) w' in
          let e = repaired true (T_true _ ((and_iff (s.active j) (not (eqb j i) && not (P.allowed i v j (p j)))).1 (h, (and_iff (not (eqb j i)) (not (P.allowed i v j (p j)))).1 ((not_iff (eqb j i)).1 (λ q. d ((eqb_iff j i).0 q)), (not_iff (P.allowed i v j (p j))).1 n)))) in
          let x = ((snake_iff F i v).0 t).1 j h d (p j) o n in
          let y = lowest_live_is F j f (x.0, x.1, (snake_serves_iff F i v j (p j) x.0).1 x.2) in
          rw e (y.0, (snake_serves_iff F i v j (p j) (lowest_live P s j f)).0 y.1, λ w l q S. lowest_live_lem P s j f w l q ((snake_serves_iff F i v j (p j) w).1 S))

  -- "Kind 3 gives i the lowest u the rule allows for the setting that j has."
  module _ (i j : ℕ) where
    pub triangle_leaves : (k : ℕ) → k ≢ i → undo P s (Triangle i j) p k ≡ p k
    unfolding undo
    triangle_leaves k d = put_other i (lowest_live P s i (λ u. triangle_serves P s i j (p j) u)) p k d

    triangle_is : undo P s (Triangle i j) p i ≡ lowest_live P s i (λ u. triangle_serves P s i j (p j) u)
    unfolding undo
    triangle_is = put_same i (lowest_live P s i (λ u. triangle_serves P s i j (p j) u)) p

    pub triangle_gives : T (triangle P s i j) → Live s j (p j)
        → Live s i (undo P s (Triangle i j) p i)
        × TriangleServes P s i j (p j) (undo P s (Triangle i j) p i)
        × ((u : ℕ) → u < undo P s (Triangle i j) p i → Live s i u → TriangleServes P s i j (p j) u → ⊥)
    triangle_gives t o =
        let f : ℕ → Bool = λ u. triangle_serves P s i j (p j) u in
        let x = ((triangle_iff F i j).0 t).1.1.1 (p j) o in
        let y = lowest_live_is F i f (x.0, x.1, (triangle_serves_iff F i j (p j) x.0).1 x.2) in
        rw triangle_is (y.0, (triangle_serves_iff F i j (p j) (lowest_live P s i f)).0 y.1, λ u l q S. lowest_live_lem P s i f u l q ((triangle_serves_iff F i j (p j) u).1 S))
