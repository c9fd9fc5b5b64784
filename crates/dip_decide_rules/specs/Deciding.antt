-- Decisions and their values: what is forced, circles, knots, and steps that explain. Nothing here speaks of the game but that there are
-- moves, paths and supports: `rule` gives the value of a decision by those of the others, and `mentions` tells whom it names.
use Rattle.std.specs.Prelude.{◌≡◌, ◌≤◌, ◌↔◌, ◌==◌, Bool, true, false, ◌||◌, List, [], ◌∷◌, length, Option, None, Some, cond}
use Rattle.dip_decide_rules.specs.declared.decisions.Decision.{Decision}
use Rattle.dip_decide_rules.specs.declared.decisions.Decision.TheVariants.{Move, Path, Support}

-- the two are one decision
abbrev pub same : Decision → Decision → Bool
same (Move p) (Move q) = p == q
same (Path p) (Path q) = p == q
same (Support p) (Support q) = p == q
same _ _ = false

-- d is one of these
abbrev pub is_among : Decision → List Decision → Bool
is_among d [] = false
is_among d (e ∷ es) = same d e || is_among d es

-- each stands there once
abbrev pub AreDistinct : List Decision → Type 0
AreDistinct [] = Unit {0}
AreDistinct (d ∷ ds) = (is_among d ds ≡ false) × AreDistinct ds

-- a value for each decision
abbrev pub Assignment : Type 0
Assignment = Decision → Bool

-- the values that were given so far
abbrev pub Known : Type 0
Known = Decision → Option Bool

-- the value of a decision by its rule, where all of them have these values
abbrev pub Equation : Type 0
Equation = Decision → Assignment → Bool

-- whether the rule of the first decision names the second
abbrev pub Mentions : Type 0
Mentions = Decision → Decision → Bool

-- a agrees with the values that were given
abbrev pub IsCompletion : Known → Assignment → Type 0
IsCompletion k a = (d : Decision) (b : Bool) → k d ≡ Some b → a d ≡ b

-- d is open, and its rule gives b whatever the other open decisions are
pub record IsForced (rule : Equation) (k : Known) (d : Decision) (b : Bool) : Type 0 where
  pub is_open : k d ≡ None
  pub value : (a : Assignment) → IsCompletion k a → rule d a ≡ b

-- the rule of d gives the value of e, whatever the open decisions are
pub record Follows (rule : Equation) (k : Known) (d e : Decision) : Type 0 where
  pub value : (a : Assignment) → IsCompletion k a → rule d a ≡ a e

abbrev pub head_or : Decision → List Decision → Decision
head_or d [] = d
head_or d (e ∷ es) = e

-- each follows the next, and the last one first
abbrev pub AreLinked : Equation → Known → Decision → List Decision → Type 0
AreLinked rule k first [] = Unit {0}
AreLinked rule k first (d ∷ ds) = Follows rule k d (head_or first ds) × AreLinked rule k first ds

-- each follows the next, and the last one the first
abbrev pub GoesRound : Equation → Known → List Decision → Type 0
GoesRound rule k [] = ⊥
GoesRound rule k (d ∷ ds) = AreLinked rule k d (d ∷ ds)

abbrev pub is_move : Decision → Bool
is_move (Move p) = true
is_move _ = false

abbrev pub is_path : Decision → Bool
is_path (Path p) = true
is_path _ = false

-- distinct open moves, two or more, each of which equals the next
pub record IsCircle (rule : Equation) (k : Known) (ds : List Decision) : Type 0 where
  pub two : 2 ≤ length ds
  pub distinct : AreDistinct ds
  pub moves : (d : Decision) → is_among d ds ≡ true → is_move d ≡ true
  pub unknown : (d : Decision) → is_among d ds ≡ true → k d ≡ None
  pub round : GoesRound rule k ds

-- something is open, nothing is forced, and there is no circle
pub record IsStuck (rule : Equation) (k : Known) : Type 0 where
  pub some : Decision
  pub is_open : k some ≡ None
  pub none_forced : (d : Decision) (b : Bool) → IsForced rule k d b → ⊥
  pub no_circle : (ds : List Decision) → IsCircle rule k ds → ⊥

-- by one or more mentions of open decisions, these between the two, d leads to e
abbrev pub Leads : Mentions → Known → Decision → List Decision → Decision → Type 0
Leads mentions k d [] e = mentions d e ≡ true
Leads mentions k d (c ∷ cs) e = (mentions d c ≡ true) × (k c ≡ None) × Leads mentions k c cs e

abbrev pub Reaches : Mentions → Known → Decision → Decision → Type 0
Reaches mentions k d e = (between : List Decision) × Leads mentions k d between e

-- the decision is a path, and has no value yet
abbrev pub IsOpenPath : Known → Decision → Type 0
IsOpenPath k d = (is_path d ≡ true) × (k d ≡ None)

-- an open path that each open path reaches which it reaches
abbrev pub IsKnotted : Mentions → Known → Decision → Type 0
IsKnotted mentions k d = IsOpenPath k d × ((e : Decision) → IsOpenPath k e → Reaches mentions k d e → Reaches mentions k e d)

-- these are the paths of the knot
pub record IsKnot (rule : Equation) (mentions : Mentions) (k : Known) (ds : List Decision) : Type 0 where
  pub stuck : IsStuck rule k
  pub distinct : AreDistinct ds
  pub exact : (d : Decision) → (is_among d ds ≡ true) ↔ IsKnotted mentions k d

pub data Step : Type 0 where
  Forced : (decision : Decision) → Step
  Circle : (moves : List Decision) → Step
  Knot : (paths : List Decision) → Step

-- the step may be made, where a has the values in the end
abbrev pub Stands : Equation → Mentions → Known → Step → Assignment → Type 0
Stands rule mentions k (Forced d) a = IsForced rule k d (a d)
Stands rule mentions k (Circle ds) a = IsCircle rule k ds
Stands rule mentions k (Knot ds) a = IsKnot rule mentions k ds

-- these are given the value b
abbrev pub give : Known → List Decision → Bool → Known
give k ds b = λ d. cond (is_among d ds) (Some b) (k d)

-- what is known after the step
abbrev pub after : Known → Step → Assignment → Known
after k (Forced d) a = give k (d ∷ []) (a d)
after k (Circle ds) a = give k ds true
after k (Knot ds) a = give k ds false

-- the steps give every decision, the values a
abbrev pub Explains : Equation → Mentions → Known → List Step → Assignment → Type 0
Explains rule mentions k [] a = (d : Decision) → k d ≡ Some (a d)
Explains rule mentions k (s ∷ steps) a = Stands rule mentions k s a × Explains rule mentions (after k s a) steps a

-- a knot of these steps breaks the path d
abbrev pub is_broken : List Step → Decision → Bool
is_broken [] d = false
is_broken (Knot ds ∷ steps) d = is_among d ds || is_broken steps d
is_broken (_ ∷ steps) d = is_broken steps d
