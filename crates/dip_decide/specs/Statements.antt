-- The laws of movement, as statements.
use Rattle.std.specs.Prelude.{◌≡◌, ◌↔◌, ℕ, Bool, true, false, List, ◌∷◌, None, suc, length}
use mathlib.Core.Logic.{◌⊎◌}
use Rattle.dip_map.specs.Boards.{Position}
use Rattle.dip_map.specs.Charts.{Chart}
use Rattle.dip_orders_placed.specs.declared.placed.PlacedOrder.{PlacedOrder}
use Rattle.dip_decide_rules.specs.declared.decisions.Decision.{Decision}
use Rattle.dip_decide_rules.specs.declared.decisions.Decision.TheVariants.{Move, Path}
use Rattle.dip_decide_rules.specs.Deciding.{Assignment, Known, Step, IsForced, IsCircle, IsOpenPath, IsKnotted, Stands, after, is_broken}
use Rattle.dip_decide_rules.specs.Corners.{rises, corner}
use Rattle.dip_decide_rules.specs.Laws.{AreOrders, IsCycle, IsChain, is_undisturbed}
use Rattle.dip_decide_rules.specs.Matching.{situation}
use Rattle.dip_decide_rules.specs.Meaning.{meant_on}
use Rattle.dip_decide_rules.specs.Movement.{Situation, IsSituation, Satisfies, OneEnters, NoneDislodgesItsOwn, NoneSwaps, goes, is_listed, joins, rule, mentions}
use Rattle.dip_decide_rules.specs.Results.{AreExplained}
use Rattle.dip_decide_rules.specs.Steps.{IsStarted, NoneForced}

-- each board with one order for each unit is a situation
abbrev pub BoardsAreSituations : Type 0
BoardsAreSituations =
    (m : Chart) (b : Position) (orders : List PlacedOrder) → AreOrders m b orders → IsSituation (situation m orders)

-- the orders of a board as they are meant on it are one for each unit, each in force
abbrev pub MeantAreOrders : Type 0
MeantAreOrders =
    (m : Chart) (b : Position) (orders : List PlacedOrder) → AreOrders m b orders → AreOrders m b (meant_on m b orders)

-- with the option off they are the orders as they were given
abbrev pub MeantAsGiven : Type 0
MeantAsGiven = (m : Chart) (b : Position) (orders : List PlacedOrder) → b.intent ≡ false → meant_on m b orders ≡ orders

-- at most one move enters a province
abbrev pub OneMoveEnters : Type 0
OneMoveEnters =
    (s : Situation) (broken : Decision → Bool) (a : Assignment) → IsSituation s → Satisfies s broken a → OneEnters s a

-- no power dislodges its own unit
abbrev pub NoneIsDislodgedByItsOwn : Type 0
NoneIsDislodgedByItsOwn =
    (s : Situation) (broken : Decision → Bool) (a : Assignment) → Satisfies s broken a → NoneDislodgesItsOwn s a

-- of two moves head to head one fails
abbrev pub HeadToHeadOneFails : Type 0
HeadToHeadOneFails =
    (s : Situation) (broken : Decision → Bool) (a : Assignment) → Satisfies s broken a → NoneSwaps s a

-- what steps explain satisfies the equations for the paths that their knots broke
abbrev pub ExplainedSatisfies : Type 0
ExplainedSatisfies =
    (s : Situation) (steps : List Step) (a : Assignment) → AreExplained s steps a → Satisfies s (is_broken steps) a

-- three or more moves by land in a cycle succeed where no other move goes to their provinces
abbrev pub CyclesSucceed : Type 0
CyclesSucceed =
    (s : Situation) (steps : List Step) (a : Assignment) (first : ℕ) (rest : List ℕ) → AreExplained s steps a → IsCycle s first rest
    → (p : ℕ) → is_listed (first ∷ rest) p ≡ true → a (Move p) ≡ true

-- a move by convoy isn't broken where it has a chain of fleets into which no move goes
abbrev pub UndisturbedConvoysHold : Type 0
UndisturbedConvoysHold =
    (s : Situation) (steps : List Step) (a : Assignment) (p q : ℕ) (fleets : List ℕ) → IsSituation s → AreExplained s steps a
    → s.convoyed p ≡ true → goes s p q ≡ true → IsChain (is_undisturbed s p) s.next q p fleets → is_broken steps (Path p) ≡ false

-- any two explanations come to the same values
abbrev pub ValuesAreOne : Type 0
ValuesAreOne =
    (s : Situation) (one two : List Step) (f g : Assignment) → AreExplained s one f → AreExplained s two g → (d : Decision) → f d ≡ g d

-- any two explanations break the same paths
abbrev pub BrokenPathsAreOne : Type 0
BrokenPathsAreOne =
    (s : Situation) (one two : List Step) (f g : Assignment) → AreExplained s one f → AreExplained s two g → (d : Decision)
    → is_broken one d ≡ is_broken two d

-- an open decision is forced to what its equation gives both at its least completion and at its greatest
abbrev pub CornersDecide : Type 0
CornersDecide =
    (s : Situation) (k : Known) (d : Decision) (b : Bool) → IsSituation s → k d ≡ None
    → ((rule s d (corner (rises s d) k false) ≡ b) × (rule s d (corner (rises s d) k true) ≡ b)) ↔ IsForced (rule s) k d b

-- the equation of a path has one exactly where there is a chain of fleets, of any length
abbrev pub ChainsAreFound : Type 0
ChainsAreFound =
    (test : ℕ → Bool) (next : ℕ → ℕ → Bool) (places : List ℕ) (q p : ℕ) → ((x : ℕ) → test x ≡ true → is_listed places x ≡ true)
    → (joins test next places q (suc (length places)) p ≡ true) ↔ ((fleets : List ℕ) × IsChain test next q p fleets)

-- where something is open, nothing is forced and there is no circle, there is a knot
abbrev pub KnotsAreFound : Type 0
KnotsAreFound =
    (s : Situation) (k : Known) (one : Decision) → IsSituation s → IsStarted s k → NoneForced s k
    → ((ds : List Decision) → IsCircle (rule s) k ds → ⊥) → k one ≡ None → (d : Decision) × IsKnotted (mentions s) k d

-- each open path is then in a knot
abbrev pub KnotsAreAllOpenPaths : Type 0
KnotsAreAllOpenPaths =
    (s : Situation) (k : Known) (d : Decision) → IsSituation s → IsStarted s k → NoneForced s k
    → ((ds : List Decision) → IsCircle (rule s) k ds → ⊥) → IsOpenPath k d → IsKnotted (mentions s) k d

-- two steps give the same, or each may be made after the other, and both orders give the same
abbrev pub Commute : Situation → Known → Step → Assignment → Step → Assignment → Type 0
Commute s k one f two g =
    (after k one f ≡ after k two g)
    ⊎ (Stands (rule s) (mentions s) (after k one f) two g × Stands (rule s) (mentions s) (after k two g) one f
    × (after (after k one f) two g ≡ after (after k two g) one f))

-- two steps that may be made in one state commute
abbrev pub StepsCommute : Type 0
StepsCommute =
    (s : Situation) (k : Known) (one two : Step) (f g : Assignment) → Stands (rule s) (mentions s) k one f → Stands (rule s) (mentions s) k two g
    → Commute s k one f two g
