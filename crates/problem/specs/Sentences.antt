-- What the tests of Problem.antt and Hand.antt ask, as sentences, and what a solution is. proofs/Reflect.antt and Sound.antt show that each
-- test holds exactly where its sentence does.
use Rattle.std.specs.Prelude.{◌≡◌, Bool, ◌≢◌, ℕ, ◌<◌, T}
use Rattle.problem.specs.Problem.{Problem, State}
use Rattle.problem.specs.Hand.{pair_left}
use Rattle.problem.specs.declared.End.{End}
use Rattle.problem.specs.declared.End.TheVariants.{Impossible, Solved, Rest}

-- ---- a state

-- the item is in
abbrev pub Active : State → ℕ → Type 0
Active s i = T (s.active i)

-- the setting is on at the item
abbrev pub Live : State → ℕ → ℕ → Type 0
Live s i a = T (s.live i a)

-- the two settings may stand together
abbrev pub Allowed : Problem → ℕ → ℕ → ℕ → ℕ → Type 0
Allowed P i a j b = T (P.allowed i a j b)

-- the state fits the problem: no cause of 11 speaks against it, at any number
pub record Fits (P : Problem) (s : State) : Type 0 where
  pub active_lt : (i : ℕ) → Active s i → i < P.n
  pub live_active : (i a : ℕ) → Live s i a → Active s i
  pub live_lt : (i a : ℕ) → Live s i a → a < P.size i

-- ---- the rules

module _ (P : Problem) (s : State) where
  -- "on at l, allowed with b and barred with a"
  abbrev pub Spoils : (i a j b l c : ℕ) → Type 0
  Spoils i a j b l c = Live s l c × (Allowed P j b l c × (Allowed P i a l c → ⊥))

  abbrev pub Substitutes : (i a j b l : ℕ) → Type 0
  Substitutes i a j b l = (c : ℕ) → Live s l c → Allowed P j b l c → Allowed P i a l c

  abbrev pub Unsupported : (i b k : ℕ) → Type 0
  Unsupported i b k = Live s i b × Active s k × (k ≢ i) × ((c : ℕ) → Live s k c → Allowed P i b k c → ⊥)

  abbrev pub SnakeServes : (i v j w w' : ℕ) → Type 0
  SnakeServes i v j w w' = Allowed P i v j w' × ((l : ℕ) → Active s l → l ≢ i → l ≢ j → Substitutes j w' j w l)

  abbrev pub Snake : (i v : ℕ) → Type 0
  Snake i v = Live s i v × ((j : ℕ) → Active s j → j ≢ i → (w : ℕ) → Live s j w → (Allowed P i v j w → ⊥) → (w' : ℕ) × Live s j w' × SnakeServes i v j w w')

  abbrev pub TriangleServes : (i j v u : ℕ) → Type 0
  TriangleServes i j v u = Allowed P i u j v × ((l : ℕ) → Active s l → l ≢ i → l ≢ j → Substitutes i u j v l)

  abbrev pub Triangle : (i j : ℕ) → Type 0
  Triangle i j = Active s i × (Active s j × (j ≢ i × ((v : ℕ) → Live s j v → (u : ℕ) × Live s i u × TriangleServes i j v u)))

  abbrev pub Neighbourhood : (i b a : ℕ) → Type 0
  Neighbourhood i b a = Live s i b × (Live s i a × (a ≢ b × ((l : ℕ) → Active s l → l ≢ i → Substitutes i a i b l)))

  abbrev pub SubstitutionServes : (spare : Bool) (i a k d e : ℕ) → Type 0
  SubstitutionServes spare i a k d e = Allowed P i a k e × ((l : ℕ) → Active s l → l ≢ k → ((T spare × l ≡ i) → ⊥) → Substitutes k e k d l)

  abbrev pub SnakeSubstitution : (spare : Bool) (i b a : ℕ) → Type 0
  SnakeSubstitution spare i b a =
      Live s i b × (Live s i a × (a ≢ b × ((k : ℕ) → Active s k → k ≢ i → (d : ℕ) → Live s k d → Allowed P i b k d → (e : ℕ) × Live s k e × SubstitutionServes spare i a k d e)))

  -- every value in a domain has a support at each other active variable
  abbrev pub Supported : ℕ → ℕ → Type 0
  Supported i a = (j : ℕ) → Active s j → j ≢ i → (b : ℕ) × Live s j b × Allowed P i a j b

  abbrev pub ArcConsistent : Type 0
  ArcConsistent = (i a : ℕ) → Live s i a → Supported i a

  -- the snake rule holds for no active variable
  abbrev pub Finished : Type 0
  Finished = (i : ℕ) → Active s i → (v : ℕ) → Snake i v → ⊥

  -- every active variable has a value
  abbrev pub NoneEmpty : Type 0
  NoneEmpty = (i : ℕ) → Active s i → (a : ℕ) × Live s i a

-- ---- solutions

-- p gives each active variable a live value, and each two of them an allowed pair
pub record Solution (P : Problem) (s : State) (p : ℕ → ℕ) : Type 0 where
  pub live : (i : ℕ) → Active s i → Live s i (p i)
  pub ok : (i j : ℕ) → Active s i → Active s j → i ≢ j → Allowed P i (p i) j (p j)

-- a state has a solution
abbrev pub Solvable : Problem → State → Type 0
Solvable P s = (p : ℕ → ℕ) × Solution P s p

-- ---- the ends, and the ends of two lists of hand calls

-- what each end says of a state: "an item in has no setting on", "no item in", "items in"; and where it is not impossible each item in
-- has a setting on
abbrev pub EndSays : State → End → Type 0
EndSays s Impossible = (i : ℕ) × Active s i × ((a : ℕ) → Live s i a → ⊥)
EndSays s Solved = (i : ℕ) → Active s i → ⊥
EndSays s Rest = ((i : ℕ) × Active s i) × ((i : ℕ) → Active s i → (a : ℕ) × Live s i a)

-- the items left, their settings, and the pairs allowed among them are alike
pub record Alike (P : Problem) (s r : State) : Type 0 where
  pub variables : (i : ℕ) → s.active i ≡ r.active i
  pub values : (i a : ℕ) → s.live i a ≡ r.live i a
  pub pairs : (i a j b : ℕ) → pair_left P s i a j b ≡ pair_left P r i a j b
