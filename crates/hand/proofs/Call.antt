-- Exported starting and the exported hand call: what they answer and leave, from the length of the state's buffer and from what the job answers;
-- what their numbers tell; and that the bytes left say the state that the job answers. Assumes nothing.
use mathlib.Core.Path.{◌≡◌, sym, ap, ◌∙◌, refl, subst}
use mathlib.Core.List.{List}
use Prim.Native.Nat.{ℕ, ◌<◌, ◌/◌, ◌%◌}
use lib.ListN.{length, get_or}
use borrow.Author.Tests.{eq-eqb, ne_eqb}
use Rattle.problem.specs.declared.Masks.{Masks}
use Rattle.hand.specs.Hand.{start_job, call_job, hand_state, call_answer}
use Rattle.hand.specs.declared.StartAnswer.{StartAnswer}
use Rattle.std.specs.Prelude.{Err, Ok}
use Rattle.hand.specs.declared.CallAnswer.{CallAnswer}
use Rattle.boundary.specs.State.{masks_in}
use Rattle.hand.specs.Call.{hand_state_length, hand_in, start_crossed, start_call, called_crossed, hand_call, HandCall, hand_bytes}
use Rattle.boundary.specs.Numbers.{bad_hand_state}
use mathlib.Core.Bool.{Bool, true, false, ◌&&◌}
use native.Mathlib.Omega.{arith}
use lib.Dec.{ltb}
use Rattle.bounded.proofs.Truth.{T_of, eq_dec}
use Rattle.bounded.proofs.Quantifiers.{any_iff, lowest_is}
use Rattle.problem.specs.Problem.{Problem, State, state_fits, none_empty, any_live, lowest_live, snake}
use Rattle.problem.specs.Hand.{call}
use Rattle.problem.specs.Held.{Bounded}
use Rattle.problem.proofs.OneCall.{call_misfit, call_item, call_emptied, call_none, call_done}
use Rattle.problem.specs.declared.Call.{Call}
use Rattle.problem.specs.declared.Call.TheVariants as outcome
use Rattle.sheet.specs.Sheet.{layout, read_sheet, Keeps, SheetRead}
use Rattle.sheet.specs.Relation.{problem_of}
use Rattle.sheet.proofs.Accepted.{keeps, problem_bounded}
use Rattle.hand.specs.declared.HandState.{HandState}
use Rattle.hand.proofs.Opened.{call_refused_lem, call_kept}
use mathlib.Core.Logic.{◌⊎◌, inl, inr, ◌≢◌, ◌↔◌}
use Rattle.sheet.specs.declared.SheetRefusal.{SheetRefusal}
use Rattle.hand.specs.Numbers.{hand_refusal_number, CallOutcome, StartOutcome}
use Rattle.hand.specs.declared.HandRefusal.{HandRefusal}
use Rattle.hand.specs.declared.HandRefusal.TheVariants as refusal
use Rattle.problem.specs.Masks.{Proper}
use Rattle.problem.proofs.Bridge.{masks_proper}
use Rattle.jobs.proofs.Opened.{sheet_or}
use Rattle.hand.proofs.Started.{started_iff}
use Rattle.hand.proofs.HandOrder.{start_meets}
use Rattle.boundary.proofs.Crossing.{masks_crossed, bytes_crossed}
use Rattle.boundary.proofs.Answers.{Refuses, Listed, sheet_listed, refused_keeps, taken_iff}

-- ---- the state crosses whole

pub hand_crossed : (st : HandState) → Proper st.masks → hand_in (hand_bytes st) ≡ st
hand_crossed st R = ap (λ (m : Masks). record { masks = m }) (masks_crossed st.masks R)

pub hand_bytes_crossed : (b : List ℕ) → length b ≡ hand_state_length → ((k : ℕ) → k < hand_state_length → get_or b k 0 < 256) → hand_bytes (hand_in b) ≡ b
hand_bytes_crossed = bytes_crossed

-- ---- what is answered and left

module _ (s b : List ℕ) where
  pub start_bad : (length b ≡ hand_state_length → ⊥) → start_call s b ≡ record { answer = bad_hand_state; state = b }
  unfolding start_call
  start_bad d = rw (ne_eqb (length b) hand_state_length d, start_call)

  pub start_good : length b ≡ hand_state_length → start_call s b ≡ start_crossed (start_job s).outcome (start_job s).state b
  unfolding start_call
  start_good e = rw (eq-eqb (length b) hand_state_length e, start_call)

  pub start_says : length b ≡ hand_state_length → (x : StartAnswer) → x ≡ start_job s
      → (o : StartOutcome) → x.outcome ≡ o → start_crossed o x.state b ≡ start_call s b
  start_says e x a o p = ap (λ (y : StartOutcome). start_crossed y x.state b) (sym p) ∙ (λ j. start_crossed (a j).outcome (a j).state b) ∙ sym (start_good e)

  module _ (i : ℕ) where
    pub hand_bad : (length b ≡ hand_state_length → ⊥) → hand_call s b i ≡ record { answer = bad_hand_state; state = b }
    unfolding hand_call
    hand_bad d = rw (ne_eqb (length b) hand_state_length d, hand_call)

    pub hand_good : length b ≡ hand_state_length → hand_call s b i ≡ called_crossed (call_job s (hand_in b) i).outcome (call_job s (hand_in b) i).state b
    unfolding hand_call
    hand_good e = rw (eq-eqb (length b) hand_state_length e, hand_call)

    -- the job's answer x in the state m that was read
    pub hand_reads : (m : Masks) (x : CallAnswer) → m ≡ masks_in b → x ≡ call_job s (record { masks = m }) i → x ≡ call_job s (hand_in b) i
    hand_reads m x e a = a ∙ ap (λ (y : Masks). call_job s (record { masks = y }) i) e

    pub hand_says : length b ≡ hand_state_length → (x : CallAnswer) → x ≡ call_job s (hand_in b) i
        → (o : CallOutcome) → x.outcome ≡ o → called_crossed o x.state b ≡ hand_call s b i
    hand_says e x a o p = ap (λ (y : CallOutcome). called_crossed y x.state b) (sym p) ∙ (λ j. called_crossed (a j).outcome (a j).state b) ∙ sym (hand_good e)

-- ---- the value of a hand call

-- the lowest value for which the rule holds is one of the variable's
value_small : (P : Problem) → Bounded P → (s : State) (i v : ℕ) → call P s i ≡ outcome.Eliminated v → v < 16
unfolding any_live lowest_live
value_small P B s i v e = go_fits (state_fits P s) refl
  where
    go_snake : state_fits P s ≡ true → (ltb i P.n && s.active i) ≡ true → none_empty P s ≡ true → (y : Bool) → any_live P s i (λ v. snake P s i v) ≡ y → v < 16
    go_snake f g h true l =
        let c = call_done P s i f g h l in
        let q : v ≡ lowest_live P s i (λ v. snake P s i v) = cc in
        let w = (lowest_is (P.size i) (λ c. s.live i c && snake P s i c) ((any_iff (P.size i) (λ c. s.live i c && snake P s i c)).0 (T_of l))).0 in
        omega (arith, B.narrow i)
    go_snake f g h false l = let c = call_none P s i f g h l in let z : ◌≡◌ {A = ℕ} 0 1 = cc in absurd (omega arith)

    go_empty : state_fits P s ≡ true → (ltb i P.n && s.active i) ≡ true → (y : Bool) → none_empty P s ≡ y → v < 16
    go_empty f g true h = go_snake f g h (any_live P s i (λ v. snake P s i v)) refl
    go_empty f g false h = let c = call_emptied P s i f g h in let z : ◌≡◌ {A = ℕ} 0 1 = cc in absurd (omega arith)

    go_item : state_fits P s ≡ true → (y : Bool) → (ltb i P.n && s.active i) ≡ y → v < 16
    go_item f true g = go_empty f g (none_empty P s) refl
    go_item f false g = let c = call_item P s i f g in let z : ◌≡◌ {A = ℕ} 0 1 = cc in absurd (omega arith)

    go_fits : (y : Bool) → state_fits P s ≡ y → v < 16
    go_fits true f = go_item f (ltb i P.n && s.active i) refl
    go_fits false f = let c = call_misfit P s i f in let z : ◌≡◌ {A = ℕ} 0 1 = cc in absurd (omega arith)

module _ (s : List ℕ) (st : HandState) (i : ℕ) (x : CallAnswer) (a : x ≡ call_job s st i) (v : ℕ) (o : x.outcome ≡ Ok v) where
  pub call_small : v < 16
  call_small = go (read_sheet layout s) refl
    where
      by_call : Keeps layout s → (y : Call) → call (problem_of layout s) (hand_state st) i ≡ y → x.outcome ≡ (call_answer (problem_of layout s) st i y).outcome → v < 16
      by_call K (outcome.Eliminated u) c q = let e : u ≡ v = cc in let l = value_small (problem_of layout s) (problem_bounded s K) (hand_state st) i u c in omega arith
      by_call K outcome.Misfit c q = let z : ◌≡◌ {A = ℕ} 0 1 = cc in absurd (omega arith)
      by_call K outcome.NotActive c q = let z : ◌≡◌ {A = ℕ} 0 1 = cc in absurd (omega arith)
      by_call K outcome.Emptied c q = let z : ◌≡◌ {A = ℕ} 0 1 = cc in absurd (omega arith)
      by_call K outcome.NoSnake c q = let z : ◌≡◌ {A = ℕ} 0 1 = cc in absurd (omega arith)

      go : (y : SheetRead) → read_sheet layout s ≡ y → v < 16
      go (Ok r) h = by_call (keeps layout s r.variables r.blocks h) (call (problem_of layout s) (hand_state st) i) refl (ap (λ (y : CallAnswer). y.outcome) (a ∙ call_kept s st i (keeps layout s r.variables r.blocks h)))
      go (Err r) h =
          let q = ap (λ (y : CallAnswer). y.outcome) (a ∙ call_refused_lem s st i r h) in
          let z : ◌≡◌ {A = ℕ} 0 1 = cc in absurd (omega arith)

-- ---- what the numbers tell

-- a number of the format's table
pub hand_listed : (r : HandRefusal) → Listed (hand_refusal_number r)
hand_listed (refusal.Sheet r) = sheet_listed r
hand_listed refusal.State = (omega arith, omega arith)
hand_listed refusal.Item = (omega arith, omega arith)
hand_listed refusal.Emptied = (omega arith, omega arith)
hand_listed refusal.Rule = (omega arith, omega arith)

-- A call of taking out by hand, with the state's buffer b: where b has another length it answers 201 and leaves b; where it is refused it
-- answers a number of the table and leaves b; and where A holds it is accepted, with a multiple of 256.
module _
    (b : List ℕ) (x : HandCall) (A : Type 0)
    (bad : length b ≢ hand_state_length → x ≡ record { answer = bad_hand_state; state = b })
    (good : length b ≡ hand_state_length → A ⊎ (Listed x.answer × (x.state ≡ b)))
    (even : (length b ≡ hand_state_length) × A → x.answer % 256 ≡ 0) where
  abbrev HandTaken : Type 0
  HandTaken = (length b ≡ hand_state_length) × A

  hand_either : HandTaken ⊎ (Refuses x.answer × (x.state ≡ b))
  hand_either = go (eq_dec (length b) hand_state_length)
    where
      by_job : length b ≡ hand_state_length → A ⊎ (Listed x.answer × (x.state ≡ b)) → HandTaken ⊎ (Refuses x.answer × (x.state ≡ b))
      by_job l (inl y) = inl (l, y)
      by_job l (inr y) = let f = y.0 in inr ((omega arith, omega arith), y.1)

      go : (length b ≡ hand_state_length) ⊎ (length b ≢ hand_state_length) → HandTaken ⊎ (Refuses x.answer × (x.state ≡ b))
      go (inl l) = by_job l (good l)
      go (inr d) = let n = ap (λ (y : HandCall). y.answer) (bad d) in inr ((omega arith, omega arith), ap (λ (y : HandCall). y.state) (bad d))

  -- refused: the buffer is as it was
  hand_keeps : x.answer % 256 ≢ 0 → x.state ≡ b
  hand_keeps = refused_keeps HandTaken (x.state ≡ b) _ hand_either even

  -- 201 says the buffer's length, and nothing else does
  hand_bad_state : (x.answer ≡ bad_hand_state) ↔ (length b ≢ hand_state_length)
  hand_bad_state = (λ a l. go a l (good l), λ d. ap (λ (y : HandCall). y.answer) (bad d))
    where
      go : x.answer ≡ bad_hand_state → length b ≡ hand_state_length → A ⊎ (Listed x.answer × (x.state ≡ b)) → ⊥
      go a l (inl y) = let z = even (l, y) in omega arith
      go a l (inr y) = let f = y.0 in omega arith

  -- the remainder is 0 exactly where the call is accepted
  hand_taken : (x.answer % 256 ≡ 0) ↔ HandTaken
  hand_taken = taken_iff HandTaken (x.state ≡ b) _ hand_either even

-- ---- starting

module _ (s b : List ℕ) where
  abbrev pub StartTaken : Type 0
  StartTaken = (length b ≡ hand_state_length) × ((start_job s).outcome ≡ Ok tt)

  -- accepted: the answer is 0
  pub start_zero : StartTaken → (start_call s b).answer ≡ 0
  start_zero x = sym (ap (λ (y : HandCall). y.answer) (start_says s b x.0 _ refl _ x.1))

  start_even : StartTaken → (start_call s b).answer % 256 ≡ 0
  start_even x = let z = start_zero x in omega arith

  start_either : length b ≡ hand_state_length → ((start_job s).outcome ≡ Ok tt) ⊎ (Listed (start_call s b).answer × ((start_call s b).state ≡ b))
  start_either l = go (start_job s).outcome refl
    where
      go : (o : StartOutcome) → (start_job s).outcome ≡ o → ((start_job s).outcome ≡ Ok tt) ⊎ (Listed (start_call s b).answer × ((start_call s b).state ≡ b))
      go (Ok _) o = inl o
      go (Err r) o =
          let q = sym (start_says s b l _ refl _ o) in
          inr (subst Listed (sym (ap (λ (y : HandCall). y.answer) q)) (sheet_listed r), ap (λ (y : HandCall). y.state) q)

  pub start_refused_keeps : (start_call s b).answer % 256 ≢ 0 → (start_call s b).state ≡ b
  start_refused_keeps = hand_keeps b (start_call s b) _ (start_bad s b) start_either start_even

  pub start_bad_state : ((start_call s b).answer ≡ bad_hand_state) ↔ (length b ≢ hand_state_length)
  start_bad_state = hand_bad_state b (start_call s b) _ (start_bad s b) start_either start_even

  pub start_taken : ((start_call s b).answer % 256 ≡ 0) ↔ StartTaken
  start_taken = hand_taken b (start_call s b) _ (start_bad s b) start_either start_even

-- ---- a hand call

module _ (s b : List ℕ) (i : ℕ) where
  -- accepted: the value comes back
  pub call_unpacked : length b ≡ hand_state_length → (v : ℕ) → (call_job s (hand_in b) i).outcome ≡ Ok v
      → ((hand_call s b i).answer % 256 ≡ 0) × ((hand_call s b i).answer / 256 ≡ v) × (v < 16)
  call_unpacked l v o =
      let q = sym (ap (λ (y : HandCall). y.answer) (hand_says s b i l _ refl _ o)) in
      (omega arith, omega arith, call_small s (hand_in b) i _ refl v o)

  abbrev pub CallTaken : Type 0
  CallTaken = (length b ≡ hand_state_length) × ((v : ℕ) × ((call_job s (hand_in b) i).outcome ≡ Ok v))

  call_even : CallTaken → (hand_call s b i).answer % 256 ≡ 0
  call_even x = (call_unpacked x.0 x.1.0 x.1.1).0

  call_either : length b ≡ hand_state_length → ((v : ℕ) × ((call_job s (hand_in b) i).outcome ≡ Ok v)) ⊎ (Listed (hand_call s b i).answer × ((hand_call s b i).state ≡ b))
  call_either l = go (call_job s (hand_in b) i).outcome refl
    where
      go : (o : CallOutcome) → (call_job s (hand_in b) i).outcome ≡ o → ((v : ℕ) × ((call_job s (hand_in b) i).outcome ≡ Ok v)) ⊎ (Listed (hand_call s b i).answer × ((hand_call s b i).state ≡ b))
      go (Ok v) o = inl (v, o)
      go (Err r) o =
          let q = sym (hand_says s b i l _ refl _ o) in
          inr (subst Listed (sym (ap (λ (y : HandCall). y.answer) q)) (hand_listed r), ap (λ (y : HandCall). y.state) q)

  pub call_refused_keeps : (hand_call s b i).answer % 256 ≢ 0 → (hand_call s b i).state ≡ b
  call_refused_keeps = hand_keeps b (hand_call s b i) _ (hand_bad s b i) call_either call_even

  pub call_bad_state : ((hand_call s b i).answer ≡ bad_hand_state) ↔ (length b ≢ hand_state_length)
  call_bad_state = hand_bad_state b (hand_call s b i) _ (hand_bad s b i) call_either call_even

  pub call_taken : ((hand_call s b i).answer % 256 ≡ 0) ↔ CallTaken
  call_taken = hand_taken b (hand_call s b i) _ (hand_bad s b i) call_either call_even

-- ---- the state left

start_proper : (s : List ℕ) → (start_job s).outcome ≡ Ok tt → Proper (start_job s).state.masks
start_proper s o = (start_meets s ((started_iff s (Ok tt)).0 o)).0

pub start_state : (s b : List ℕ) → length b ≡ hand_state_length → (start_job s).outcome ≡ Ok tt → hand_in (start_call s b).state ≡ (start_job s).state
start_state s b l o = ap (λ (y : HandCall). hand_in y.state) (sym (start_says s b l _ refl _ o)) ∙ hand_crossed _ (start_proper s o)

-- what a hand call answers in the state st: a state that the struct can hold, or where it is refused st itself
abbrev pub Held : HandState → CallOutcome → HandState → Type 0
Held st (Ok v) x = Proper x.masks
Held st (Err r) x = x ≡ st

pub call_held : (s : List ℕ) (st : HandState) (i : ℕ) → Held st (call_job s st i).outcome (call_job s st i).state
call_held s st i = by_sheet (sheet_or s)
  where
    by_call : (c : Call) → Held st (call_answer (problem_of layout s) st i c).outcome (call_answer (problem_of layout s) st i c).state
    by_call (outcome.Eliminated v) = masks_proper _
    by_call outcome.Misfit = refl
    by_call outcome.NotActive = refl
    by_call outcome.Emptied = refl
    by_call outcome.NoSnake = refl

    by_sheet : ((r : SheetRefusal) × (read_sheet layout s ≡ Err r)) ⊎ Keeps layout s → Held st (call_job s st i).outcome (call_job s st i).state
    by_sheet (inl x) = subst (λ (x : CallAnswer). Held st x.outcome x.state) (sym (call_refused_lem s st i x.0 x.1)) refl
    by_sheet (inr K) = subst (λ (x : CallAnswer). Held st x.outcome x.state) (sym (call_kept s st i K)) (by_call (call (problem_of layout s) (hand_state st) i))

-- refused calls included
pub call_state : (s b : List ℕ) (i : ℕ) → length b ≡ hand_state_length → hand_in (hand_call s b i).state ≡ (call_job s (hand_in b) i).state
call_state s b i l = go (call_job s (hand_in b) i).outcome refl (call_held s (hand_in b) i)
  where
    go : (o : CallOutcome) → (call_job s (hand_in b) i).outcome ≡ o → Held (hand_in b) (call_job s (hand_in b) i).outcome (call_job s (hand_in b) i).state → hand_in (hand_call s b i).state ≡ (call_job s (hand_in b) i).state
    go (Ok v) o x = ap (λ (y : HandCall). hand_in y.state) (sym (hand_says s b i l _ refl _ o)) ∙ hand_crossed _ (rw o at x)
    go (Err r) o x = ap (λ (y : HandCall). hand_in y.state) (sym (hand_says s b i l _ refl _ o)) ∙ sym (rw o at x)
