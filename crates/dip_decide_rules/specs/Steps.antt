-- What the code has reached: the steps it has written, the values it has given, and what is left.
use Rattle.std.specs.Prelude.{◌≡◌, ℕ, Bool, true, false, List, [], ◌∷◌, ◌++◌, map, filter, Option, None, Some}
use Rattle.dip_decide_rules.specs.declared.decisions.Decision.{Decision}
use Rattle.dip_decide_rules.specs.declared.decisions.Decision.TheVariants.{Move, Path, Support}
use Rattle.dip_decide_rules.specs.declared.decisions.Step.{Step}
use Rattle.dip_decide_rules.specs.declared.decisions.Step.TheVariants as Written
use Rattle.dip_decide_rules.specs.Deciding as Deciding
use Rattle.dip_decide_rules.specs.Deciding.{is_among, Equation, Mentions, Known, Assignment, IsCompletion, IsForced, Explains}
use Rattle.dip_decide_rules.specs.Movement.{Situation, is_decided, at_first, rule, mentions}

-- the moves, the paths and the supports of the units in these provinces
abbrev pub moves_of : List ℕ → List Decision
moves_of ps = map Move ps

abbrev pub paths_of : List ℕ → List Decision
paths_of ps = map Path ps

abbrev pub supports_of : List ℕ → List Decision
supports_of ps = map Support ps

-- the step that is written
abbrev pub step_of : Step → Deciding.Step
step_of (Written.Forced d) = Deciding.Step.Forced d
step_of (Written.Circle ps) = Deciding.Step.Circle (moves_of ps.items)
step_of (Written.Knot ps) = Deciding.Step.Knot (paths_of ps.items)

abbrev pub steps_of : List Step → List Deciding.Step
steps_of steps = map step_of steps

-- all decisions that there may be of units in these places
abbrev pub decisions : List ℕ → List Decision
decisions [] = []
decisions (p ∷ ps) = Move p ∷ Path p ∷ Support p ∷ decisions ps

abbrev pub is_unknown : Option Bool → Bool
is_unknown None = true
is_unknown (Some v) = false

-- what is known stays so
abbrev pub Grows : Known → Known → Type 0
Grows k l = (d : Decision) (v : Bool) → k d ≡ Some v → l d ≡ Some v

-- what explains the rest from l explains, after these steps, all from k
pub record Continues (rule : Equation) (mentions : Mentions) (k : Known) (steps : List Deciding.Step) (l : Known) : Type 0 where
  pub kept : (a : Assignment) → IsCompletion l a → IsCompletion k a
  pub grows : Grows k l
  pub on : (a : Assignment) (rest : List Deciding.Step) → IsCompletion l a → Explains rule mentions l rest a → Explains rule mentions k (steps ++ rest) a

-- of these decisions one that was open is given
pub record Advances (ds : List Decision) (k l : Known) : Type 0 where
  pub grows : Grows k l
  pub one : Decision
  pub inside : is_among one ds ≡ true
  pub before : k one ≡ None
  pub value : Bool
  pub after : l one ≡ Some value

-- one was given, or all are known
abbrev pub IsRound : List Decision → Bool → Known → Known → Type 0
IsRound ds true k l = Advances ds k l
IsRound ds false k l = (d : Decision) → (v : Bool) × (l d ≡ Some v)

-- what explained the values before explains them still; one was given, or all are known
pub record IsTurn (s : Situation) (any : Bool) (old : List Deciding.Step) (k : Known) (new : List Deciding.Step) (l : Known) : Type 0 where
  pub explained : (first : Known) → Continues (rule s) (mentions s) first old k → Continues (rule s) (mentions s) first new l
  pub given : IsRound (decisions s.places) any k l

-- the steps lead from what is known at first to values of all decisions
pub record IsComplete (s : Situation) (steps : List Deciding.Step) (l : Known) : Type 0 where
  pub explained : Continues (rule s) (mentions s) (at_first s) steps l
  pub all : (d : Decision) → (v : Bool) × (l d ≡ Some v)

-- the steps lead from what is known at first to these values, and to all where the search has ended
abbrev pub IsReached : Situation → Bool → List Deciding.Step → Known → Type 0
IsReached s true steps l = Continues (rule s) (mentions s) (at_first s) steps l
IsReached s false steps l = IsComplete s steps l

-- nothing is forced
abbrev pub NoneForced : Situation → Known → Type 0
NoneForced s k = (d : Decision) (b : Bool) → IsForced (rule s) k d b → ⊥

-- of what isn't decided it is known that it is false
abbrev pub IsStarted : Situation → Known → Type 0
IsStarted s k = (d : Decision) → is_decided s d ≡ false → k d ≡ Some false

-- the paths of these units that are open
abbrev pub open_paths : Known → List ℕ → List ℕ
open_paths k ps = filter (λ p. is_unknown (k (Path p))) ps
