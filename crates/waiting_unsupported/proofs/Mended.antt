-- The words of unsupported values stay true: once a value is gone and they are mended, and in a state where there is none. Assumes nothing.
use mathlib.Core.Path.{◌≡◌, sym, ◌∙◌, subst}
use mathlib.Core.List.{List}
use mathlib.Core.Logic.Iff
use mathlib.Core.Logic.{◌⊎◌, inl, inr, ⊎_elim, ◌≢◌, ◌↔◌}
use Prim.Native.Nat.{ℕ}
use lib.Dec.{T}
use Rattle.bounded.proofs.Truth.{T_dec, eq_dec}
use Rattle.problem.specs.Problem.{Problem, State, none_empty, remove}
use Rattle.problem.proofs.Reflect.{turn, none_empty_iff, remove_live, remove_fits}
use Rattle.problem.specs.Sentences.{Active, Live, Allowed, Fits, Unsupported, ArcConsistent}
use Rattle.waiting_unsupported.specs.Words.{AllUnsupported, Mended}
use Rattle.waiting_unsupported.proofs.Words.{Last}

-- in an arc consistent state no value is unsupported
arc_supported : (P : Problem) (s : State) → ArcConsistent P s → (i b k : ℕ) → Unsupported P s i b k → ⊥
arc_supported P s C i b k u = let y = C i b u.0 k u.1 u.2 in u.3 y.0 y.1 y.2

-- so that words without a value of one have none of an arc consistent state below it
pub unsupported_below : {P : Problem} {s q : State} {b : List ℕ} → Fits P s → Fits P q → T (none_empty P s) → ArcConsistent P s → ArcConsistent P q → ((i a : ℕ) → Live q i a → Live s i a) → AllUnsupported P s b → AllUnsupported P q b
unsupported_below {P} {s} {q} F G lasts C D below B =
    record {
      long = B.long;
      exact = λ h i a o. (
        λ x. absurd (let u = (B.exact lasts i a (below i a o)).0 x in arc_supported P s C i a u.0 u.1),
        λ u. absurd (arc_supported P q D i a u.0 u.1),
      );
    }

module _ {P : Problem} {s : State} (F : Fits P s) (l c : ℕ) where
  -- the state after value c of l is gone
  abbrev q : State
  q = remove P s l c

  was : (i b : ℕ) → Live q i b → Live s i b
  was i b o = ((remove_live P s l c i b).0 o).0

  active_iff : (k : ℕ) → Active q k ↔ Active s k
  unfolding remove
  active_iff k = Iff.rfl

  none_emptied : T (none_empty P q) → T (none_empty P s)
  none_emptied h = (none_empty_iff F).1 (λ i a. let x = (none_empty_iff (remove_fits P s F l c)).0 h i ((active_iff i).1 a) in (x.0, was i x.0 x.1))

  -- a value unsupported before is so after
  still_unsupported : (i b k : ℕ) → Live q i b → Unsupported P s i b k → Unsupported P q i b k
  still_unsupported i b k o u = (o, (active_iff k).1 u.1, u.2, λ d live al. u.3 d (was k d live) al)

  -- nothing else becomes unsupported: only l has changed, and only c has gone
  unsupported_since : (i b k : ℕ) → Unsupported P q i b k → Unsupported P s i b k ⊎ Last P q l c i b
  unsupported_since i b k u = go (T_dec (P.allowed l c i b)) (eq_dec k l)
    where
      before : ((d : ℕ) → Live s k d → Allowed P i b k d → (k ≡ l × d ≡ c) → ⊥) → Unsupported P s i b k
      before other = (was i b u.0, (active_iff k).0 u.1, u.2, λ d live al. u.3 d ((remove_live P s l c k d).1 (live, other d live al)) al)

      go : T (P.allowed l c i b) ⊎ (T (P.allowed l c i b) → ⊥) → (k ≡ l) ⊎ (k ≢ l) → Unsupported P s i b k ⊎ Last P q l c i b
      go (inl al) (inl e) =
          inr (λ z. u.2 (e ∙ sym z), al, λ d live x. u.3 d (subst (λ (y : ℕ). Live q y d) (sym e) live) (subst (λ (y : ℕ). Allowed P i b y d) (sym e) (turn P l d i b x)))
      go (inl al) (inr n) = inl (before (λ d live x e. n e.0))
      go (inr n) e = inl (before (λ d live x z. n (turn P i b l c (subst (λ (y : ℕ). Allowed P i b l y) z.1 (subst (λ (y : ℕ). Allowed P i b y d) z.0 x)))))

-- mended once value c of l is gone, they are those of the state after it
pub unsupported_mended : {P : Problem} {s : State} {b n : List ℕ} → Fits P s → AllUnsupported P s b → (l c : ℕ) → Live s l c → Mended P (remove P s l c) l c b n → AllUnsupported P (remove P s l c) n
unsupported_mended {P} {s} {b} {n} F B l c on M =
    record {
      long = M.long;
      exact = λ h i a o. (
        λ x. ⊎_elim
            (λ y. let u = (B.exact (none_emptied F l c h) i a (was F l c i a o)).0 y in (u.0, still_unsupported F l c i a u.0 o u.1))
            (λ (y : Last P (remove P s l c) l c i a). (l, (o, (active_iff F l c l).1 (F.live_active l c on), λ e. y.0 (sym e), λ d live al. y.2 d live (turn P i a l d al))))
            ((M.exact h i a o).0 x),
        λ u. (M.exact h i a o).1 (⊎_elim
            (λ y. inl ((B.exact (none_emptied F l c h) i a (was F l c i a o)).1 (u.0, y)))
            (λ y. inr y)
            (unsupported_since F l c i a u.0 u.1)),
      );
    }
