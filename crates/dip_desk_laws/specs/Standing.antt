-- What ORDERS and WITHDRAW leave of a seat.
use Rattle.std.specs.Prelude.{◌≡◌, List}
use Rattle.dip_desk_machine.specs.Machine.{orders_effect}
use Rattle.dip_desk_state.specs.Records.{Own, Standing}
use Rattle.dip_desk_state.specs.State.{own_effect}

-- after the effect of orders on a seat these orders stand, whichever stood before, and nothing else of it is another
abbrev pub OrdersStand : Type 0
OrdersStand = (o : Own) (orders : List Standing) → own_effect (orders_effect o.pending orders) o ≡ record o { pending = orders }
