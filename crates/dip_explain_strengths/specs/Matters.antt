-- What a line of an explanation is about.
use Rattle.std.specs.Prelude.{ℕ, Bool, not, List, ◌++◌, flat_map, ◌∷◌, [], codes, Option, None, Some}
use Rattle.dip_map.specs.Charts.{Chart, province}
use Rattle.dip_orders.specs.Texts.{order_text, unit_text}
use Rattle.dip_orders_placed.specs.declared.placed.PlacedOrder.{PlacedOrder}
use Rattle.dip_decide_rules.specs.declared.decisions.Decision.{Decision}
use Rattle.dip_decide_rules.specs.Corners.{corner, rises}
use Rattle.dip_decide_rules.specs.Deciding.{Assignment, Known}
use Rattle.dip_decide_rules.specs.Given.{known_of, situation_of}
use Rattle.dip_decide_rules.specs.Matching.{order_at}
use Rattle.dip_decide_rules.specs.Movement.{Situation}
use Rattle.dip_explain_strengths.specs.declared.cases.Case.{Case}

-- the decision that a line tells of, and what it rests on
pub record Matter : Type 0 where
  pub map : Chart
  -- the orders as they are meant
  pub orders : List PlacedOrder
  pub situation : Situation
  -- what stands above the line
  pub known : Known
  pub of : Decision
  -- the decision came out false: the line is told at the greatest completion of what is known, else at the least
  pub high : Bool

-- the values at the completion at which the line is told
abbrev pub here : Matter → Assignment
here c = corner (rises c.situation c.of) c.known c.high

-- the values at the other one
abbrev pub there : Matter → Assignment
there c = corner (rises c.situation c.of) c.known (not c.high)

-- the matter of a case of the code
abbrev pub matter_of : Case → Matter
matter_of c = record {
  map = c.map.now;
  orders = c.orders.now;
  situation = situation_of c.corner.table.now;
  known = known_of c.corner.known.now;
  of = c.corner.of.now;
  high = c.corner.high;
}

-- a province's code
abbrev pub code : Chart → ℕ → List ℕ
code m p = (province m p).code

abbrev pub unit_or_code : Chart → ℕ → Option PlacedOrder → List ℕ
unit_or_code m p None = code m p
unit_or_code m p (Some o) = unit_text m o.unit

-- the unit in a province; the province's code where there is none
unfoldable pub unit_in : Matter → ℕ → List ℕ
unit_in c p = unit_or_code c.map p (order_at c.orders p)

abbrev pub order_or_code : Chart → ℕ → Option PlacedOrder → List ℕ
order_or_code m p None = code m p
order_or_code m p (Some o) = order_text m o

-- the order of the unit in a province; the province's code where there is none
unfoldable pub order_in : Chart → List PlacedOrder → ℕ → List ℕ
order_in m orders p = order_or_code m p (order_at orders p)

-- these texts, each after a comma
abbrev pub others : (ℕ → List ℕ) → List ℕ → List ℕ
others text ps = flat_map (λ p. codes ", " ++ text p) ps

-- these texts with commas between them
abbrev pub joined : (ℕ → List ℕ) → List ℕ → List ℕ
joined text [] = []
joined text (p ∷ ps) = text p ++ others text ps

-- these texts with commas between them; where there are none, another text
abbrev pub joined_or : List ℕ → (ℕ → List ℕ) → List ℕ → List ℕ
joined_or none text [] = none
joined_or none text (p ∷ ps) = text p ++ others text ps
