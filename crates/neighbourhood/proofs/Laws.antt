-- The values that substitute for one, as a word, and what it rests on that there is none. Assumes nothing.
use mathlib.Core.Path.{◌≡◌}
use mathlib.Core.List.{List}
use mathlib.Core.Logic.Iff
use mathlib.Core.Logic.{◌≢◌, ◌↔◌}
use Prim.Native.Nat.{ℕ, ◌<◌}
use lib.Dec.{T}
use lib.ListN.{get_or}
use Rattle.bounded.specs.Mask.{bit, without}
use Rattle.bounded.proofs.Truth.{and_iff, not_iff, eqb_iff}
use Rattle.bounded.proofs.Mask.{bit_without16, member_some}
use Rattle.bounded.proofs.Members.{without_part}
use Rattle.problem.specs.Problem.{Problem, State}
use Rattle.problem.specs.Held.{held}
use Rattle.problem.specs.Masks.{state_of}
use Rattle.problem.specs.declared.Masks.{Masks}
use Rattle.rests.proofs.Rests.{neighbourhood_rests}
use Rattle.held.specs.Ready.{Ready, Among}
use Rattle.held.proofs.Laws.{active_32, live_value}
use Rattle.cover.specs.Words.{servers_in, others}
use Rattle.cover.specs.Broken.{BrokenIn}
use Rattle.cover.proofs.Laws.{broken_at, servers_in_iff, others_iff}
use Rattle.neighbourhood.specs.Parts.{NeighbourhoodTried}

module _ {t : List ℕ} {m : Masks} (R : Ready t m) (i b : ℕ) (l : i < 32) (k : b < 16) where
  abbrev P : Problem
  P = held t

  abbrev s : State
  s = state_of m

  -- the other variables, and the other values of i
  abbrev rest : ℕ
  rest = others m.active i

  abbrev good : ℕ
  good = without 16 (get_or m.domains i 0) b

  good_iff : (a : ℕ) → a < 16 → T (bit good a) ↔ (T (bit (get_or m.domains i 0) a) × (a ≢ b))
  good_iff a q = rw (bit_without16 (get_or m.domains i 0) b a k q) (simp (and_iff, not_iff, eqb_iff) Iff.rfl)

  pub good_among : Among m i good
  unfolding state_of
  good_among = record { live = λ a h. without_part 16 (get_or m.domains i 0) b a h }

  -- the values that substitute for b; where none does, that rests on the variables where they break
  pub candidates_tried : {left broken : ℕ} → T (bit (get_or m.domains i 0) b) → left ≡ servers_in P s rest good i i b → BrokenIn P s rest good left broken i i b → NeighbourhoodTried P s i b left broken
  unfolding state_of
  candidates_tried {left} {broken} o e B =
      record {
        holds = λ a. rw e (
          λ h. let x = (servers_in_iff R.fits rest good i i b a).0 h in
              let y = (good_iff a x.0).0 x.1 in
              (o, (y.0, (y.1, λ n act d. x.2 n (active_32 R n act) ((others_iff m.active i n l (active_32 R n act)).1 (act, d))))),
          λ x. let v = (live_value R i a x.1.0).value in
              (servers_in_iff R.fits rest good i i b a).1 (v, (good_iff a v).1 (x.1.0, x.1.1.0), λ n q u. let z = (others_iff m.active i n l q).0 u in x.1.1.1 n z.0 z.1),
        );
        fails = λ none. neighbourhood_rests i b (λ a live d.
            let y = broken_at R.fits B a ((good_iff a (live_value R i a live).value).1 (live, d)) (λ h. member_some left a h none) in
            (y.0, ((others_iff m.active i y.0 l y.1).0 y.3).1, λ c. y.2, y.4));
      }
