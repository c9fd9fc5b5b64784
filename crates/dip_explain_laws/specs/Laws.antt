-- The laws of explained movements, as statements.
use Rattle.std.specs.Prelude.{◌≡◌, ℕ, ◌≤◌, ◌&&◌, ◌||◌, ◌++◌, true, false, not, List, [], ◌∷◌, Some, None, Vec, codes, length, if◌then◌else◌}
use Rattle.std.specs.declared.alloc.Global.{Global}
use Rattle.dip_map.specs.Boards.{Position}
use Rattle.dip_map.specs.Charts.{Chart, are_provs_single}
use Rattle.dip_orders_placed.specs.declared.placed.PlacedOrder.{PlacedOrder}
use Rattle.dip_decide_rules.specs.declared.decisions.Decision.{Decision}
use Rattle.dip_decide_rules.specs.declared.decisions.Decision.TheVariants.{Move, Path, Support}
use Rattle.dip_decide_rules.specs.declared.decisions.Resolution.{Resolution}
use Rattle.dip_decide_rules.specs.declared.decisions.Step.{Step}
use Rattle.dip_decide_rules.specs.declared.decisions.Step.TheVariants.{Forced, Circle, Knot}
use Rattle.dip_decide_rules.specs.Deciding.{AreDistinct, Assignment, IsCompletion, Known, Stands, after, is_among}
use Rattle.dip_decide_rules.specs.Laws.{AreOrders}
use Rattle.dip_decide_rules.specs.Meaning.{meant_on, situation_on}
use Rattle.dip_decide_rules.specs.Movement.{IsSituation, Situation, at_first, attack, goes, head_to_head, hold, is_entered, is_decided, is_listed, mentions, opposition, prevent, rule}
use Rattle.dip_decide_rules.specs.Results.{AreExplained, values_in}
use Rattle.dip_decide_rules.specs.Steps.{step_of, steps_of}
use Rattle.dip_explain_strengths.specs.Matters.{Matter, code, here, joined, joined_or, order_in, unit_in}
use Rattle.dip_explain_strengths.specs.StrengthTexts.{attack_strength, attack_text, attackers_text, lack_against_text, lack_text, opponents_text, opposition_strength, opposition_text, prevent_strength, prevent_text, preventers_text}
use Rattle.dip_explain_lines.specs.Lines.{carriers, comparison_text, cutters, cutting_text, decision_text, fleet_text, movers, rivals, servers, sparing_text, unbeaten}
use Rattle.dip_explain.specs.Movement.{explanation, known_after, knot_text, lines_from, step_line}
use Rattle.dip_explain_strengths.specs.Strengths.{attackers, backers, backers_against, holders, left_out, left_out_against, opponents, preventers}
use Rattle.dip_explain_laws.specs.Words.{AttackedByNone, Cuts, Exceeds, FallsShort, HasRoute, IsCounted, IsFleetSaid, IsLeftOut, IsLeftOutAgainst, IsLine, IsOfMove, IsOfPath, IsSaid, IsTold, IsVerdict, OpposedByNone, PreventedByNone, Spares, attack_lack, known_along, matter_at, missing_attackers, missing_opponents, named, named_text, ordered, told_in}

-- the laws below that are of situations are of each board with an order for each unit
abbrev pub BoardsHaveSituations : Type 0
BoardsHaveSituations =
    (m : Chart) (b : Position) (orders : List PlacedOrder) → AreOrders m b orders → IsSituation (situation_on m b orders)

-- an attack is as many as the units that attack
abbrev pub AttackCounts : Type 0
AttackCounts = (s : Situation) (a : Assignment) (p q : ℕ) → attack s a p q ≡ length (attackers s a p q)

-- what the destination sets against a move is as many as the units that do so
abbrev pub OppositionCounts : Type 0
OppositionCounts = (s : Situation) (a : Assignment) (p q : ℕ) → opposition s a p q ≡ length (opponents s a p q)

-- what a move sets against other moves is as many as the units that prevent them
abbrev pub PreventCounts : Type 0
PreventCounts = (s : Situation) (a : Assignment) (p q : ℕ) → prevent s a p q ≡ length (preventers s a p q)

-- what holds a province is as many as the units that hold it
abbrev pub HoldCounts : Type 0
HoldCounts = (s : Situation) (a : Assignment) (q : ℕ) → hold s a q ≡ length (holders s a q)

-- no unit is counted twice in an attack
abbrev pub AttackersAreSingle : Type 0
AttackersAreSingle =
    (s : Situation) (a : Assignment) (p q : ℕ) → IsSituation s → goes s p q ≡ true
    → are_provs_single (attackers s a p q) ≡ true

-- no unit is counted twice in what prevents other moves
abbrev pub PreventersAreSingle : Type 0
PreventersAreSingle =
    (s : Situation) (a : Assignment) (p q : ℕ) → IsSituation s → goes s p q ≡ true
    → are_provs_single (preventers s a p q) ≡ true

-- no unit is counted twice in what the destination sets against a move, unless a unit supports itself
abbrev pub OpponentsAreSingle : Type 0
OpponentsAreSingle =
    (s : Situation) (a : Assignment) (p q : ℕ) → IsSituation s → s.supports q q ≡ false
    → are_provs_single (opponents s a p q) ≡ true

-- an attack is told with its number, and then the units that make it
abbrev pub AttacksAreShown : Type 0
AttacksAreShown =
    (c : Matter) (p q : ℕ) → attack_text c p q ≡ codes "attack " ++ attack_strength c p q ++ attackers_text c p q

-- what the destination sets against a move is told with its number, and then its units: units head to head defend, and others are held
abbrev pub OppositionIsShown : Type 0
OppositionIsShown =
    (c : Matter) (p q : ℕ)
    → opposition_text c p q
    ≡ (if head_to_head c.situation p q then codes "defend " else codes "hold ") ++ opposition_strength c p q ++ opponents_text c p q

-- what another move to the same destination sets against it is told with its number, and then its units
abbrev pub RivalsAreShown : Type 0
RivalsAreShown =
    (c : Matter) (q w : ℕ) → prevent_text c q w ≡ codes "prevent " ++ prevent_strength c q w ++ preventers_text c q w

-- where the attack of the move that a line is about is 0, the line tells why, and that came out so
abbrev pub NoAttackHasAReason : Type 0
NoAttackHasAReason =
    (steps : List Step) (a : Assignment) (c : Matter) (p q : ℕ) → IsTold steps a c → IsOfMove c p q
    → attack c.situation (here c) p q ≡ 0 → AttackedByNone c a p q

-- where nothing is set against a move that succeeds, its line tells why, and that came out so
abbrev pub NoOppositionHasAReason : Type 0
NoOppositionHasAReason =
    (steps : List Step) (a : Assignment) (c : Matter) (p q : ℕ) → IsTold steps a c → IsOfMove c p q → a (Move p) ≡ true
    → opposition c.situation (here c) p q ≡ 0 → OpposedByNone c a p q

-- where another move there doesn't prevent a move that succeeds, its line tells why, and that came out so
abbrev pub NoPreventHasAReason : Type 0
NoPreventHasAReason =
    (steps : List Step) (a : Assignment) (c : Matter) (p q w : ℕ) → IsTold steps a c → IsOfMove c p q → a (Move p) ≡ true
    → is_listed (rivals c.situation p q) w ≡ true → prevent c.situation (here c) w q ≡ 0 → PreventedByNone c a q w

-- where an attack isn't 0, the text names just the units that attack, and who is left out
abbrev pub AttackersAreNamed : Type 0
AttackersAreNamed =
    (c : Matter) (p q : ℕ) → 1 ≤ attack c.situation (here c) p q
    → attackers_text c p q ≡ named_text c (attackers c.situation (here c) p q) (missing_attackers c p q) (attack_lack c p q)

-- where the destination sets something against a move, the text names just the units that do, and who is left out
abbrev pub OpponentsAreNamed : Type 0
OpponentsAreNamed =
    (c : Matter) (p q : ℕ) → 1 ≤ opposition c.situation (here c) p q
    → opponents_text c p q ≡ named_text c (opponents c.situation (here c) p q) (missing_opponents c p q) (lack_text c)

-- where another move prevents, the text names just the units that do, and who is left out
abbrev pub PreventersAreNamed : Type 0
PreventersAreNamed =
    (c : Matter) (q w : ℕ) → 1 ≤ prevent c.situation (here c) w q
    → preventers_text c q w ≡ named_text c (preventers c.situation (here c) w q) (left_out c.situation (here c) w) (lack_text c)

-- whose supports of a unit count: just those that match and are given
abbrev pub BackersAreGiven : Type 0
BackersAreGiven =
    (s : Situation) (a : Assignment) (p h : ℕ) → IsSituation s
    → is_listed (backers s a p) h ≡ (s.supports h p && a (Support h))

-- whose supports count against the unit in q: just those that match, are given, and are of other powers
abbrev pub BackersAgainstAreGiven : Type 0
BackersAgainstAreGiven =
    (s : Situation) (a : Assignment) (p q h : ℕ) → IsSituation s
    → is_listed (backers_against s a p q) h ≡ ((s.supports h p && a (Support h)) && not (s.same_power h q))

-- who is left out: just those whose supports match and aren't given
abbrev pub LeftOutArentGiven : Type 0
LeftOutArentGiven =
    (s : Situation) (a : Assignment) (p h : ℕ) → IsSituation s
    → is_listed (left_out s a p) h ≡ (s.supports h p && not (a (Support h)))

-- against the unit in q: just those whose supports match, and aren't given or are of its own power
abbrev pub LeftOutAgainstArentGiven : Type 0
LeftOutAgainstArentGiven =
    (s : Situation) (a : Assignment) (p q h : ℕ) → IsSituation s
    → is_listed (left_out_against s a p q) h ≡ (s.supports h p && (not (a (Support h)) || s.same_power h q))

-- whose support matches is either counted or left out, and never both
abbrev pub SupportersAreParted : Type 0
SupportersAreParted =
    (s : Situation) (a : Assignment) (p h : ℕ) → IsSituation s → s.supports h p ≡ true
    → is_listed (left_out s a p) h ≡ not (is_listed (backers s a p) h)

-- against the unit in q, whose support matches is either counted or left out, and never both
abbrev pub SupportersArePartedAgainst : Type 0
SupportersArePartedAgainst =
    (s : Situation) (a : Assignment) (p q h : ℕ) → IsSituation s → s.supports h p ≡ true
    → is_listed (left_out_against s a p q) h ≡ not (is_listed (backers_against s a p q) h)

-- no decision is told twice
abbrev pub NoneIsToldTwice : Type 0
NoneIsToldTwice =
    (s : Situation) (steps : List Step) (a : Assignment) → AreExplained s (steps_of steps) a → AreDistinct (told_in steps)

-- just what is decided is told
abbrev pub JustDecisionsAreTold : Type 0
JustDecisionsAreTold =
    (s : Situation) (steps : List Step) (a : Assignment) (d : Decision) → AreExplained s (steps_of steps) a
    → is_among d (told_in steps) ≡ is_decided s d

-- an explanation is the lines of its steps, told of the orders as they are meant on the board
abbrev pub ExplanationsAreLines : Type 0
ExplanationsAreLines =
    (m : Chart) (b : Position) (orders : List PlacedOrder) (r : Resolution)
    → explanation m b orders r
    ≡ lines_from m (meant_on m b orders) (situation_on m b orders) (values_in r) (at_first (situation_on m b orders)) r.steps.items

-- the text is the lines above, the line told at what is known from them, and the lines below, told at what is known with it
abbrev pub LinesStandInOrder : Type 0
LinesStandInOrder =
    (m : Chart) (orders : List PlacedOrder) (s : Situation) (a : Assignment) (k : Known) (above : List Step) (step : Step) (below : List Step)
    → lines_from m orders s a k (above ++ step ∷ below)
    ≡ lines_from m orders s a k above ++ step_line m orders s a (known_along k above a) step
    ++ lines_from m orders s a (known_along k (above ++ step ∷ []) a) below

-- what a line rests on is the values of the decisions that the lines above it tell, and that what isn't decided is false
abbrev pub LinesRestOnThoseAbove : Type 0
LinesRestOnThoseAbove =
    (s : Situation) (steps : List Step) (a : Assignment) (k : Known) (step : Step) (d : Decision) (l : IsLine s steps a k step)
    → AreExplained s (steps_of steps) a
    → k d ≡ (if is_among d (told_in l.above) then Some (a d) else if is_decided s d then None else Some false)

-- from what a line rests on alone its step may be made
abbrev pub LinesFollow : Type 0
LinesFollow =
    (s : Situation) (steps : List Step) (a : Assignment) (k : Known) (step : Step) → IsLine s steps a k step
    → AreExplained s (steps_of steps) a → Stands (rule s) (mentions s) k (step_of step) a

-- what is known after a line is what its step gives
abbrev pub LinesGiveTheirSteps : Type 0
LinesGiveTheirSteps =
    (s : Situation) (steps : List Step) (a : Assignment) (k : Known) (step : Step) → IsLine s steps a k step
    → AreExplained s (steps_of steps) a → known_after k step a ≡ after k (step_of step) a

-- what came out is one of the ways in which what is open might have come out
abbrev pub ValuesComplete : Type 0
ValuesComplete =
    (s : Situation) (steps : List Step) (a : Assignment) (k : Known) (step : Step) → IsLine s steps a k step
    → AreExplained s (steps_of steps) a → IsCompletion k a

-- the line of a decision with one value is what is said of its matter
abbrev pub LinesTellTheirMatters : Type 0
LinesTellTheirMatters =
    (m : Chart) (orders : List PlacedOrder) (s : Situation) (a : Assignment) (k : Known) (d : Decision)
    → step_line m orders s a k (Forced d) ≡ decision_text (matter_at m orders s k d (a d)) d ++ codes "\n"

-- the matter of a decision's line is one of which the laws below speak
abbrev pub MattersAreTold : Type 0
MattersAreTold =
    (m : Chart) (orders : List PlacedOrder) (s : Situation) (steps : List Step) (a : Assignment) (k : Known) (d : Decision)
    → AreExplained s (steps_of steps) a → IsLine s steps a k (Forced d) → IsTold steps a (matter_at m orders s k d (a d))

-- a decision came out as its line tells
abbrev pub VerdictsAreAsTold : Type 0
VerdictsAreAsTold = (steps : List Step) (a : Assignment) (c : Matter) → IsTold steps a c → IsVerdict c (a c.of)

-- the moves of a circle succeed
abbrev pub CirclesMove : Type 0
CirclesMove =
    (s : Situation) (steps : List Step) (a : Assignment) (k : Known) (ps : Vec ℕ Global) (p : ℕ) → AreExplained s (steps_of steps) a
    → IsLine s steps a k (Circle ps) → is_listed ps.items p ≡ true → a (Move p) ≡ true

-- the moves of a knot have no path
abbrev pub KnotsBreak : Type 0
KnotsBreak =
    (s : Situation) (steps : List Step) (a : Assignment) (k : Known) (ps : Vec ℕ Global) (p : ℕ) → AreExplained s (steps_of steps) a
    → IsLine s steps a k (Knot ps) → is_listed ps.items p ≡ true → a (Path p) ≡ false

-- the line of a move says that it succeeds just where it did, and shows its attack and what that is compared with
abbrev pub MoveLinesAreSo : Type 0
MoveLinesAreSo =
    (steps : List Step) (a : Assignment) (c : Matter) (p q : ℕ) → IsTold steps a c → IsOfMove c p q
    → decision_text c (Move p)
    ≡ order_in c.map c.orders p ++ (if a (Move p) then codes " succeeds: " else codes " fails: ") ++ attack_text c p q
    ++ comparison_text c p q

-- the line of a support says that it is given just where it was, with what each move to the supporter comes to, or names who cuts it
abbrev pub SupportLinesAreSo : Type 0
SupportLinesAreSo =
    (steps : List Step) (a : Assignment) (c : Matter) (h : ℕ) → IsTold steps a c → c.of ≡ Support h
    → decision_text c (Support h)
    ≡ order_in c.map c.orders h
    ++ (if a (Support h)
    then codes " is given: " ++ joined_or (codes "no move goes to " ++ code c.map h) (ordered c (sparing_text c h)) (movers c.situation h)
    else codes " is cut: " ++ joined (ordered c (cutting_text c h)) (cutters c.situation (here c) h))

-- the line of a path says that there is a route just where there was one, and names the fleets that carry or were to
abbrev pub PathLinesAreSo : Type 0
PathLinesAreSo =
    (steps : List Step) (a : Assignment) (c : Matter) (p : ℕ) → IsTold steps a c → c.of ≡ Path p
    → decision_text c (Path p)
    ≡ order_in c.map c.orders p
    ++ (if a (Path p) then codes " has a route: carried by " ++ joined (unit_in c) (servers c.situation (here c) p)
    else codes " has no route: " ++ joined_or (codes "no fleet carries it") (named c (fleet_text c)) (carriers c.situation p))

-- the line of a circle names its moves
abbrev pub CirclesAreNamed : Type 0
CirclesAreNamed =
    (m : Chart) (orders : List PlacedOrder) (s : Situation) (a : Assignment) (k : Known) (ps : Vec ℕ Global)
    → step_line m orders s a k (Circle ps) ≡ codes "circle: " ++ joined (order_in m orders) ps.items ++ codes " move together\n"

-- the line of a knot names its moves
abbrev pub KnotsAreNamed : Type 0
KnotsAreNamed =
    (m : Chart) (orders : List PlacedOrder) (s : Situation) (a : Assignment) (k : Known) (ps : Vec ℕ Global)
    → step_line m orders s a k (Knot ps)
    ≡ codes "knot: " ++ joined (order_in m orders) ps.items ++ knot_text (length ps.items) ++ codes "\n"

-- whose move is told of has a move
abbrev pub ToldMovesGoSomewhere : Type 0
ToldMovesGoSomewhere =
    (steps : List Step) (a : Assignment) (c : Matter) (p : ℕ) → IsTold steps a c → c.of ≡ Move p
    → (q : ℕ) × IsOfMove c p q

-- where a move is told to succeed, its attack in the line exceeds all the rest in the line
abbrev pub SucceedingMovesExceed : Type 0
SucceedingMovesExceed =
    (steps : List Step) (a : Assignment) (c : Matter) (p q : ℕ) → IsTold steps a c → IsOfMove c p q
    → a (Move p) ≡ true → Exceeds c p q

-- where it is told to fail, its attack doesn't exceed what is in the destination, or there is another move that it doesn't exceed
abbrev pub FailingMovesFallShort : Type 0
FailingMovesFallShort =
    (steps : List Step) (a : Assignment) (c : Matter) (p q : ℕ) → IsTold steps a c → IsOfMove c p q
    → a (Move p) ≡ false → FallsShort c p q

-- each move that the line names for that goes there too, and has as much to prevent it at least
abbrev pub UnbeatenPrevent : Type 0
UnbeatenPrevent =
    (s : Situation) (a : Assignment) (p q w : ℕ) → is_listed (unbeaten s a p q) w ≡ true
    → (is_listed (rivals s p q) w ≡ true) × (attack s a p q ≤ prevent s a w q)

-- where a support is told to be cut, a move that cuts it is named
abbrev pub CutSupportsAreCut : Type 0
CutSupportsAreCut =
    (steps : List Step) (a : Assignment) (c : Matter) (h : ℕ) → IsTold steps a c → c.of ≡ Support h
    → a (Support h) ≡ false
    → (x : ℕ) × (is_listed (cutters c.situation (here c) h) x ≡ true)

-- whoever is named for that goes to the supporter, is of another power, and cuts it as told
abbrev pub CuttersCut : Type 0
CuttersCut =
    (steps : List Step) (a : Assignment) (c : Matter) (h x : ℕ) → IsTold steps a c → c.of ≡ Support h
    → a (Support h) ≡ false → is_listed (cutters c.situation (here c) h) x ≡ true
    → (goes c.situation x h ≡ true) × (c.situation.same_power x h ≡ false) × Cuts c a h x

-- where it is told to be given, each move to the supporter spares it
abbrev pub GivenSupportsAreSpared : Type 0
GivenSupportsAreSpared =
    (steps : List Step) (a : Assignment) (c : Matter) (h x : ℕ) → IsTold steps a c → c.of ≡ Support h
    → a (Support h) ≡ true → is_listed (movers c.situation h) x ≡ true → Spares c a h x

-- the fleets that a line names as carrying a move are ordered to, and weren't dislodged
abbrev pub NamedFleetsCarry : Type 0
NamedFleetsCarry =
    (steps : List Step) (a : Assignment) (c : Matter) (p x : ℕ) → IsTold steps a c → c.of ≡ Path p → a (Path p) ≡ true
    → is_listed (servers c.situation (here c) p) x ≡ true → (c.situation.convoys x p ≡ true) × (is_entered c.situation a x ≡ false)

-- the fleets that it names as ordered to carry a move are just those whose convoys match
abbrev pub CarriersMatch : Type 0
CarriersMatch = (s : Situation) (p x : ℕ) → IsSituation s → is_listed (carriers s p) x ≡ s.convoys x p

-- what is said of them where they make no route came out so
abbrev pub FleetsAreAsSaid : Type 0
FleetsAreAsSaid =
    (steps : List Step) (a : Assignment) (c : Matter) (p x : ℕ) → IsTold steps a c → c.of ≡ Path p → a (Path p) ≡ false
    → IsFleetSaid c a x

-- where a move is told to have a route, some of the fleets that are named make it
abbrev pub RoutesAreThere : Type 0
RoutesAreThere =
    (steps : List Step) (a : Assignment) (c : Matter) (p q : ℕ) → IsSituation c.situation → IsTold steps a c
    → IsOfPath c p q → a (Path p) ≡ true → HasRoute c.situation (here c) p q

-- where it is told to have none, there is none
abbrev pub StrandedHaveNoRoute : Type 0
StrandedHaveNoRoute =
    (steps : List Step) (a : Assignment) (c : Matter) (p q : ℕ) → IsSituation c.situation → IsTold steps a c
    → IsOfPath c p q → a (Path p) ≡ false → HasRoute c.situation (here c) p q → ⊥

-- whatever is open, the attack of the move that a line is about is as the line says
abbrev pub AttacksAreAsSaid : Type 0
AttacksAreAsSaid =
    (c : Matter) (p q : ℕ) (f : Assignment) → IsSituation c.situation → IsOfMove c p q → IsCompletion c.known f
    → IsSaid (attack_strength c p q) (attack c.situation (here c) p q) (attack c.situation f p q)

-- whatever is open, what the destination sets against the move is as the line says
abbrev pub OppositionIsAsSaid : Type 0
OppositionIsAsSaid =
    (c : Matter) (p q : ℕ) (f : Assignment) → IsSituation c.situation → IsOfMove c p q → IsCompletion c.known f
    → IsSaid (opposition_strength c p q) (opposition c.situation (here c) p q) (opposition c.situation f p q)

-- whatever is open, what each other move there sets against it is as the line says
abbrev pub RivalsAreAsSaid : Type 0
RivalsAreAsSaid =
    (c : Matter) (p q w : ℕ) (f : Assignment) → IsSituation c.situation → IsOfMove c p q → IsCompletion c.known f
    → is_listed (rivals c.situation p q) w ≡ true
    → IsSaid (prevent_strength c q w) (prevent c.situation (here c) w q) (prevent c.situation f w q)

-- what is said of each supporter that counts is so
abbrev pub CountedAreAsSaid : Type 0
CountedAreAsSaid =
    (steps : List Step) (a : Assignment) (c : Matter) (p h : ℕ) → IsTold steps a c
    → is_listed (backers c.situation (here c) p) h ≡ true → IsCounted c a h

-- what is said of each supporter that counts against the unit in q is so
abbrev pub CountedAgainstAreAsSaid : Type 0
CountedAgainstAreAsSaid =
    (steps : List Step) (a : Assignment) (c : Matter) (p q h : ℕ) → IsTold steps a c
    → is_listed (backers_against c.situation (here c) p q) h ≡ true → IsCounted c a h

-- what is said of each supporter that is left out is so
abbrev pub LeftOutAreAsSaid : Type 0
LeftOutAreAsSaid =
    (steps : List Step) (a : Assignment) (c : Matter) (p h : ℕ) → IsTold steps a c
    → is_listed (left_out c.situation (here c) p) h ≡ true → IsLeftOut c a h (lack_text c h)

-- what is said of each supporter that is left out against the unit in q is so
abbrev pub LeftOutAgainstAreAsSaid : Type 0
LeftOutAgainstAreAsSaid =
    (steps : List Step) (a : Assignment) (c : Matter) (p q h : ℕ) → IsTold steps a c
    → is_listed (left_out_against c.situation (here c) p q) h ≡ true → IsLeftOutAgainst c a q h (lack_against_text c q h)
