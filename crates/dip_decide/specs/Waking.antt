-- Among whom those are that mention a decision: by where units go, and by whom they support and convoy.
use Rattle.std.specs.Prelude.{ℕ, List, [], ◌∷◌, ◌++◌, Option, None, Some}
use Rattle.dip_decide_rules.specs.declared.decisions.Decision.{Decision}
use Rattle.dip_decide_rules.specs.declared.decisions.Decision.TheVariants.{Move, Path, Support}
use Rattle.dip_decide_rules.specs.declared.placed.Table.{Table}
use Rattle.dip_decide_rules.specs.Matching.{target_of}
use Rattle.dip_decide_rules.specs.Placed.{entry, backed_of, carried_of, keyed_by}
use Rattle.dip_decide_rules.specs.Steps.{moves_of}

-- the moves into q
abbrev pub moves_into : Table → ℕ → List Decision
moves_into t q = moves_of (keyed_by target_of t.places.items t.rows.items q)

-- the moves to where a unit goes
abbrev pub moves_to : Table → Option ℕ → List Decision
moves_to t None = []
moves_to t (Some q) = moves_into t q

-- the path of a unit, if there is one
abbrev pub path_of : Option ℕ → List Decision
path_of None = []
path_of (Some p) = Path p ∷ []

-- what the unit in h supports or convoys, to which a move goes
abbrev pub at_target : Table → Option ℕ → List Decision
at_target t None = []
at_target t (Some h) = Support h ∷ path_of (carried_of (entry t.rows.items h))

-- whom the path of a move wakes that goes to q
abbrev pub past_path : Table → Option ℕ → List Decision
past_path t None = []
past_path t (Some q) = moves_into t q ++ Support q ∷ []

-- whom a support of the unit in w wakes
abbrev pub past_support : Table → Option ℕ → List Decision
past_support t None = []
past_support t (Some w) = moves_into t w ++ moves_to t (target_of (entry t.rows.items w))

-- all who may mention a decision
abbrev pub woken : Table → Decision → List Decision
woken t (Move x) = moves_into t x ++ at_target t (target_of (entry t.rows.items x))
woken t (Path w) = past_path t (target_of (entry t.rows.items w))
woken t (Support h) = past_support t (backed_of (entry t.rows.items) (entry t.rows.items h))
