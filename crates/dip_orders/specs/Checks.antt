-- Checks in order: the first that doesn't hold gives the fault.
use Rattle.std.specs.Prelude.{Bool, List, [], ◌∷◌, Result, Ok, Err, if◌then◌else◌}
use Rattle.dip_orders.specs.declared.faults.OrderFault.{OrderFault}

-- a check: what must hold, and the fault where it doesn't
pub record Check : Type 0 where
  pub holds : Bool
  pub fault : OrderFault

abbrev pub must : Bool → OrderFault → Check
must holds fault = record { holds = holds; fault = fault }

-- what comes of it where all checks hold, else the fault of the first that doesn't
abbrev pub outcome : {A : Type 0} → List Check → A → Result A OrderFault
outcome [] x = Ok x
outcome (c ∷ cs) x = if c.holds then outcome cs x else Err c.fault
