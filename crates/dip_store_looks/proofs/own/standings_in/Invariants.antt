use Rattle.std.proofs.Common.{◌≡◌, map, take}
use Rattle.dip_store_looks.specs.Shown.{shown_order}
use Rattle.dip_desk_state.specs.Rows as rows
use Rattle.dip_store_tables.specs.Reading.{standing_of}
use Rattle.dip_store_looks.proofs.own.standings_in.Given as goal

abbrev pub invariant-loop-order : goal.invariant-loop-order
invariant-loop-order l = rows.standings l.standings.items ≡ map (λ r. standing_of l.map (shown_order r)) (take l.order-index l.orders)
