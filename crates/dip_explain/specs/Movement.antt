-- The explanation of a movement: a line for each step, which rests on what stands above it.
use Rattle.std.specs.Prelude.{ℕ, Bool, true, false, ◌==◌, not, List, [], ◌∷◌, ◌++◌, codes, length, Option, None, Some, if◌then◌else◌}
use Rattle.dip_map.specs.Boards.{Position}
use Rattle.dip_map.specs.Charts.{Chart}
use Rattle.dip_orders_placed.specs.declared.placed.PlacedOrder.{PlacedOrder}
use Rattle.dip_decide_rules.specs.declared.decisions.Decision.{Decision}
use Rattle.dip_decide_rules.specs.declared.decisions.Resolution.{Resolution}
use Rattle.dip_decide_rules.specs.declared.decisions.Step.{Step}
use Rattle.dip_decide_rules.specs.declared.decisions.Step.TheVariants.{Forced, Circle, Knot}
use Rattle.dip_decide_rules.specs.Deciding.{Assignment, Known, give}
use Rattle.dip_decide_rules.specs.Meaning.{meant_on, situation_on}
use Rattle.dip_decide_rules.specs.Movement.{Situation, at_first}
use Rattle.dip_decide_rules.specs.Results.{values_in}
use Rattle.dip_decide_rules.specs.Steps.{moves_of, paths_of}
use Rattle.dip_explain_strengths.specs.Matters.{joined, order_in}
use Rattle.dip_explain_lines.specs.Lines.{decision_text}

-- a decision that came out with this value
unfoldable pub forced_line : Chart → List PlacedOrder → Situation → Known → Decision → Bool → List ℕ
forced_line m orders s k d value =
    decision_text (record { map = m; orders = orders; situation = s; known = k; of = d; high = not value }) d ++ codes "\n"

-- why the moves of a knot have no route
unfoldable pub knot_text : ℕ → List ℕ
knot_text n = if n == 1 then codes " has no route: it hangs on its own convoy" else codes " have no route: they hang on one another"

-- a step's line: a decision that was forced, a circle of moves, or a knot of convoys
unfoldable pub step_line : Chart → List PlacedOrder → Situation → Assignment → Known → Step → List ℕ
step_line m orders s a k (Forced d) = forced_line m orders s k d (a d)
step_line m orders s a k (Circle ps) = codes "circle: " ++ joined (order_in m orders) ps.items ++ codes " move together\n"
step_line m orders s a k (Knot ps) = codes "knot: " ++ joined (order_in m orders) ps.items ++ knot_text (length ps.items) ++ codes "\n"

-- an open decision has a value from now on; what was known stays
abbrev pub given_to : Known → Decision → Bool → Option Bool → Known
given_to k d b None = give k (d ∷ []) b
given_to k d b (Some v) = k

-- those of these that were open have a value from now on
abbrev pub learned : Known → List Decision → Bool → Known
learned k [] b = k
learned k (d ∷ ds) b = learned (given_to k d b (k d)) ds b

-- what is known after a step
abbrev pub known_after : Known → Step → Assignment → Known
known_after k (Forced d) a = given_to k d (a d) (k d)
known_after k (Circle ps) a = learned k (moves_of ps.items) true
known_after k (Knot ps) a = learned k (paths_of ps.items) false

-- a line for each step
abbrev pub lines_from : Chart → List PlacedOrder → Situation → Assignment → Known → List Step → List ℕ
lines_from m orders s a k [] = []
lines_from m orders s a k (step ∷ steps) = step_line m orders s a k step ++ lines_from m orders s a (known_after k step a) steps

-- why a movement came out as it did
abbrev pub explanation : Chart → Position → List PlacedOrder → Resolution → List ℕ
explanation m b orders r = lines_from m (meant_on m b orders) (situation_on m b orders) (values_in r) (at_first (situation_on m b orders)) r.steps.items
