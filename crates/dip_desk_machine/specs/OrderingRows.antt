-- What the code's record of ORDERS says.
use Rattle.std.specs.Prelude.{string_bytes}
use Rattle.dip_desk_games.specs.Ordering as o
use Rattle.dip_desk_machine.specs.declared.ordering.Ordered.{Ordered}

abbrev pub so_far : Ordered → o.Ordered
so_far r = record { orders = r.orders.items; answers = string_bytes r.answers }
