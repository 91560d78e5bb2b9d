-- Demand 3 where C and Rust stand: from buffer to buffer, over the definitions that the exported functions' contracts cite. Assumes nothing.
use mathlib.Core.Path.{◌≡◌, refl, sym, ap, ◌∙◌, subst, fun_ext}
use mathlib.Core.List.{List, [], ◌∷◌}
use Prim.Native.Nat.{ℕ}
use lib.Dec.{T}
use lib.ListN.{length}
use Rattle.problem.specs.Problem.{Problem, State}
use Rattle.problem.specs.Hand.{finished, arc_consistent}
use Rattle.problem.specs.Masks.{state_of, masks_of, Proper}
use Rattle.problem.specs.declared.Masks.{Masks}
use Rattle.problem.specs.Sentences.{Active, Alike}
use Rattle.problem.proofs.Bridge.{masks_back}
use Rattle.sheet.specs.Sheet.{layout, Keeps}
use Rattle.sheet.specs.Relation.{problem_of}
use Rattle.hand.specs.Hand.{hand_state, hand_fits, start_job, call_job, calls_job}
use Rattle.hand.specs.declared.HandState.{HandState}
use Rattle.hand.specs.Numbers.{CallOutcome}
use Rattle.std.specs.Prelude.{Err, Ok}
use Rattle.hand.proofs.HandOrder.{order_does_not_matter, start_meets}
use Rattle.hand.proofs.Started.{started_iff}
use Rattle.boundary.specs.State.{masks_bytes, masks_in}
use Rattle.hand.specs.Call.{OfBytes, hand_state_length, hand_bytes, hand_in, HandCall, start_call, hand_call, hand_calls}
use Rattle.boundary.proofs.Crossing.{state_length_lem, state_below, in_proper}
use Rattle.hand.proofs.Call.{hand_bytes_crossed, start_says, hand_says, start_state, Held, call_held, call_state}

-- ---- the bytes of a state

-- buffers that say alike states are the same
bytes_same : (b c : List ℕ) → length b ≡ hand_state_length → OfBytes b → length c ≡ hand_state_length → OfBytes c
    → state_of (masks_in b) ≡ state_of (masks_in c) → b ≡ c
bytes_same b c lb hb lc hc e =
    let m : masks_in b ≡ masks_in c = sym (masks_back (masks_in b) (in_proper b hb)) ∙ ap masks_of e ∙ masks_back (masks_in c) (in_proper c hc) in
    sym (hand_bytes_crossed b lb hb) ∙ ap masks_bytes m ∙ hand_bytes_crossed c lc hc

-- ---- what a hand call leaves

-- the buffer that it was lent, or the bytes of a state
call_leaves : (Q : List ℕ → Type 0) (s b : List ℕ) (i : ℕ) → length b ≡ hand_state_length → Q b → ((m : Masks) → Proper m → Q (masks_bytes m)) → Q (hand_call s b i).state
call_leaves Q s b i l q f = go (call_job s (hand_in b) i).outcome refl (call_held s (hand_in b) i)
  where
    go : (o : CallOutcome) → (call_job s (hand_in b) i).outcome ≡ o → Held (hand_in b) (call_job s (hand_in b) i).outcome (call_job s (hand_in b) i).state → Q (hand_call s b i).state
    go (Err r) o x = subst (λ (y : HandCall). Q y.state) (hand_says s b i l _ refl _ o) q
    go (Ok v) o x = subst (λ (y : HandCall). Q y.state) (hand_says s b i l _ refl _ o) (f _ (rw o at x))

call_length : (s b : List ℕ) (i : ℕ) → length b ≡ hand_state_length → length (hand_call s b i).state ≡ hand_state_length
call_length s b i l = call_leaves (λ c. length c ≡ hand_state_length) s b i l l (λ m R. state_length_lem m R.length_is)

call_below : (s b : List ℕ) (i : ℕ) → length b ≡ hand_state_length → OfBytes b → OfBytes (hand_call s b i).state
call_below s b i l h = call_leaves OfBytes s b i l h (λ m R k _. state_below m k)

-- ---- lists of hand calls

-- the buffer keeps its length, so that no later call answers 201
pub calls_length : (s b : List ℕ) (l : List ℕ) → length b ≡ hand_state_length → length (hand_calls s b l) ≡ hand_state_length
unfolding hand_calls
calls_length s b [] e = e
calls_length s b (i ∷ l) e = calls_length s (hand_call s b i).state l (call_length s b i e)

calls_below : (s b : List ℕ) (l : List ℕ) → length b ≡ hand_state_length → OfBytes b → OfBytes (hand_calls s b l)
unfolding hand_calls
calls_below s b [] e h = h
calls_below s b (i ∷ l) e h = calls_below s (hand_call s b i).state l (call_length s b i e) (call_below s b i e h)

-- "each later call is given the state that the call before it answered, and nobody alters sheet or state meanwhile": the buffer left says
-- the state that the same list of jobs answers
pub calls_cross : (s b : List ℕ) (l : List ℕ) → length b ≡ hand_state_length → hand_in (hand_calls s b l) ≡ calls_job s (hand_in b) l
unfolding hand_calls calls_job
calls_cross s b [] e = refl
calls_cross s b (i ∷ l) e = calls_cross s (hand_call s b i).state l (call_length s b i e) ∙ ap (λ (st : HandState). calls_job s st l) (call_state s b i e)

-- ---- demand 3

alike_same : {P : Problem} {q r : State} → Alike P q r → q ≡ r
alike_same A = λ t. record { active = fun_ext A.variables t; live = fun_ext (λ i. fun_ext (A.values i)) t }

-- "Both begin from one state that fits the sheet and in which every setting on has a partner at each other item in; [..]. Where after each
-- list the rule holds for no item, the items left, their settings and the pairs allowed among them are alike in both. And no list of such
-- calls from that state, finished or not, takes out an item that a finished one leaves." From one buffer, finished lists leave one buffer,
-- byte for byte.
pub same_bytes : (s : List ℕ) → Keeps layout s → (b : List ℕ) → length b ≡ hand_state_length → OfBytes b
    → T (hand_fits (problem_of layout s) (hand_in b)) → T (arc_consistent (problem_of layout s) (hand_state (hand_in b)))
    → ((k l : List ℕ)
    → T (finished (problem_of layout s) (hand_state (hand_in (hand_calls s b k)))) → T (finished (problem_of layout s) (hand_state (hand_in (hand_calls s b l))))
    → hand_calls s b k ≡ hand_calls s b l)
    × ((k l : List ℕ)
    → T (finished (problem_of layout s) (hand_state (hand_in (hand_calls s b k))))
    → (i : ℕ) → Active (hand_state (hand_in (hand_calls s b k))) i → Active (hand_state (hand_in (hand_calls s b l))) i)
same_bytes s K b e h t C = (
  λ k l fk fl.
      let A = d.0 k l (subst done (x k) fk) (subst done (x l) fl) in
      bytes_same (hand_calls s b k) (hand_calls s b l) (calls_length s b k e) (calls_below s b k e h) (calls_length s b l e) (calls_below s b l e h)
      (ap hand_state (x k) ∙ alike_same A ∙ sym (ap hand_state (x l))),
  λ k l fk i a. subst (λ (st : HandState). Active (hand_state st) i) (sym (x l)) (d.1 k l (subst done (x k) fk) i (subst (λ (st : HandState). Active (hand_state st) i) (x k) a)),
)
  where
    done : HandState → Type 0
    done st = T (finished (problem_of layout s) (hand_state st))

    x : (l : List ℕ) → hand_in (hand_calls s b l) ≡ calls_job s (hand_in b) l
    x l = calls_cross s b l e

    d : ((k l : List ℕ) → done (calls_job s (hand_in b) k) → done (calls_job s (hand_in b) l) → Alike (problem_of layout s) (hand_state (calls_job s (hand_in b) k)) (hand_state (calls_job s (hand_in b) l)))
        × ((k l : List ℕ) → done (calls_job s (hand_in b) k) → (i : ℕ) → Active (hand_state (calls_job s (hand_in b) k)) i → Active (hand_state (calls_job s (hand_in b) l)) i)
    d = order_does_not_matter s K (hand_in b) (in_proper b h) t C

module _ (s b : List ℕ) (K : Keeps layout s) (e : length b ≡ hand_state_length) where
  started_is : (start_job s).outcome ≡ Ok tt
  started_is = (started_iff s (Ok tt)).1 K

  start_leaves : (start_call s b).state ≡ hand_bytes (start_job s).state
  start_leaves = sym (ap (λ (y : HandCall). y.state) (start_says s b e _ refl _ started_is))

  -- "In whatever order items are taken out by hand under the snake rule, the end is the same": from what starting leaves, which meets the
  -- premise
  pub start_then_calls : ((k l : List ℕ)
      → T (finished (problem_of layout s) (hand_state (hand_in (hand_calls s (start_call s b).state k))))
      → T (finished (problem_of layout s) (hand_state (hand_in (hand_calls s (start_call s b).state l))))
      → hand_calls s (start_call s b).state k ≡ hand_calls s (start_call s b).state l)
      × ((k l : List ℕ)
      → T (finished (problem_of layout s) (hand_state (hand_in (hand_calls s (start_call s b).state k))))
      → (i : ℕ) → Active (hand_state (hand_in (hand_calls s (start_call s b).state k))) i → Active (hand_state (hand_in (hand_calls s (start_call s b).state l))) i)
  start_then_calls =
      let M = start_meets s K in
      let q = sym (start_state s b e started_is) in
      same_bytes s K (start_call s b).state (ap length start_leaves ∙ state_length_lem _ M.0.length_is) (subst OfBytes (sym start_leaves) (λ k _. state_below _ k))
      (subst (λ (st : HandState). T (hand_fits (problem_of layout s) st)) q M.1)
      (subst (λ (st : HandState). T (arc_consistent (problem_of layout s) (hand_state st))) q M.2)
