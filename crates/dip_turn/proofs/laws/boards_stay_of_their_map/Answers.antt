use Rattle.dip_turn.proofs.MapLemmas.{boards_stay_of_their_map}
use Rattle.dip_turn.proofs.laws.boards_stay_of_their_map.Goals as goal

pub returns : goal.returns
returns c = boards_stay_of_their_map (record {
  apart = c.units_stand_apart.ensures;
  satisfies = c.explained_is_lawful.ensures.equations;
  meant = c.orders_are_meant.ensures.orders;
  are_open = c.retreats_are_open.ensures.open_to;
  lawful = c.orders_are_lawful.ensures;
  units = c.each_unit_has_one_order.ensures.units;
  in_force = c.each_unit_has_one_order.ensures.in_force;
})
