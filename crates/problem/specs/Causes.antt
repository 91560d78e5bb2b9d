-- What an answer says: the cover test's, where a cover breaks, what is named of a record that is not lawful, and why a hand call answers as it
-- does. proofs/Spoiler.antt and OneCall.antt show that each is answered for its cause and for no other.
use Rattle.std.specs.Prelude.{◌⊎◌, ◌≢◌, ℕ, ◌≤◌, ◌<◌, T, Option, Some, None}
use Rattle.problem.specs.Problem.{Problem, State, snake}
use Rattle.problem.specs.Sentences.{Active, Live, Fits, Spoils, Substitutes, NoneEmpty}
use Rattle.problem.specs.declared.Record.{Record}
use Rattle.problem.specs.declared.Record.TheVariants.{Unsupported, Snake, Triangle, Neighbourhood, SnakeSubstitution}
use Rattle.problem.specs.declared.Call.{Call}
use Rattle.problem.specs.declared.Call.TheVariants.{Eliminated, Misfit, NotActive, Emptied, NoSnake}

-- c is the lowest number of which p is true
abbrev pub Lowest : (ℕ → Type 0) → ℕ → Type 0
Lowest p c = p c × ((d : ℕ) → d < c → p d → ⊥)

-- ---- the cover test's answer, and where a cover breaks

module _ (P : Problem) (s : State) where
  -- what each answer says: "the lowest setting at l that spoils it, or that there is none", which is where a covers b
  abbrev pub SpoilerSays : (i a j b l : ℕ) → Option ℕ → Type 0
  SpoilerSays i a j b l (Some c) = Lowest (Spoils P s i a j b l) c
  SpoilerSays i a j b l None = Substitutes P s i a j b l

  -- l is another item, and a does not cover b there; both are settings of i
  abbrev pub Breaks : (i b a l : ℕ) → Type 0
  Breaks i b a l = Active s l × (l ≢ i × (Substitutes P s i a i b l → ⊥))

  -- "the lowest item where the cover breaks and the lowest setting that spoils it there"
  abbrev pub BreakSays : (i b a : ℕ) → Option (ℕ × ℕ) → Type 0
  BreakSays i b a (Some (l, c)) = Lowest (Breaks i b a) l × Lowest (Spoils P s i a i b l) c
  BreakSays i b a None = (l : ℕ) → Active s l → l ≢ i → Substitutes P s i a i b l

  -- ---- what is named of a record that is not lawful

  -- "i in, a and b different and on, and no item in left without a setting"
  abbrev pub CoverAsked : (i b a : ℕ) → Type 0
  CoverAsked i b a = Active s i × (a ≢ b × (Live s i a × (Live s i b × NoneEmpty P s)))

  -- the record is of kind 4, and only its cover can be at fault
  abbrev pub CoverAlone : Record → Type 0
  CoverAlone (Neighbourhood i b a) = CoverAsked i b a
  CoverAlone (Unsupported i b k) = ⊥
  CoverAlone (Snake i v) = ⊥
  CoverAlone (Triangle i j) = ⊥
  CoverAlone (SnakeSubstitution i b a) = ⊥

  -- l is "the lowest item where the cover breaks" and c "the lowest setting that spoils it there"
  abbrev pub BreaksAt : Record → (l c : ℕ) → Type 0
  BreaksAt (Neighbourhood i b a) l c = Lowest (Breaks i b a) l × Lowest (Spoils P s i a i b l) c
  BreaksAt (Unsupported i b k) l c = ⊥
  BreaksAt (Snake i v) l c = ⊥
  BreaksAt (Triangle i j) l c = ⊥
  BreaksAt (SnakeSubstitution i b a) l c = ⊥

  -- where the cover breaks, of a record of which only the cover can be at fault; and nothing of any other
  abbrev pub Names : Record → Option (ℕ × ℕ) → Type 0
  Names r (Some (l, c)) = CoverAlone r × BreaksAt r l c
  Names r None = CoverAlone r → ⊥

  -- ---- a hand call: the causes, in the words of the table

  -- 11: "an item in is not below n, an item out has a setting on, or a setting on is not below its size"
  abbrev pub Misfits : Type 0
  Misfits =
      ((i : ℕ) × Active s i × (P.n ≤ i))
      ⊎ (((i : ℕ) × (a : ℕ) × Live s i a × (Active s i → ⊥)) ⊎ ((i : ℕ) × (a : ℕ) × Live s i a × (P.size i ≤ a)))

  -- the named item is below n and in
  abbrev pub Named : ℕ → Type 0
  Named i = (i < P.n) × Active s i

  -- 13: "some item in has no setting on"
  abbrev pub SomeEmpty : Type 0
  SomeEmpty = (l : ℕ) × Active s l × ((c : ℕ) → Live s l c → ⊥)

  -- the lowest value for which the snake rule holds
  abbrev pub LowestSnake : (i v : ℕ) → Type 0
  LowestSnake i v = T (snake P s i v) × ((w : ℕ) → w < v → T (snake P s i w) → ⊥)

  -- why a call of item i answers as it does: each cause where no earlier one speaks
  abbrev pub CallCause : ℕ → Call → Type 0
  CallCause i Misfit = Misfits
  CallCause i NotActive = Fits P s × ((P.n ≤ i) ⊎ (Active s i → ⊥))
  CallCause i Emptied = Fits P s × Named i × SomeEmpty
  CallCause i NoSnake = Fits P s × Named i × NoneEmpty P s × ((v : ℕ) → T (snake P s i v) → ⊥)
  CallCause i (Eliminated v) = Fits P s × Named i × NoneEmpty P s × LowestSnake i v
