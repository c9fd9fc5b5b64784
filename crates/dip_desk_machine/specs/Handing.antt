-- The orders that stand in a game, as they are handed over when its phase is adjudicated.
use Rattle.std.specs.Prelude.{◌≡◌, true}
use Rattle.std.specs.List.{AllByRecursion}
use Rattle.dip_map.specs.Charts.{Chart}
use Rattle.dip_orders.specs.Given.{AreGiven}
use Rattle.dip_desk_machine.specs.Lawful.{IsLawful}
use Rattle.dip_desk_state.specs.State.{State, whole_of}
use Rattle.dip_desk_games.specs.ByPlace.{are_by_place}
use Rattle.dip_desk_games.specs.Ticking.{orders_of}

-- in a lawful state the orders of each game are ones that can be given beside one another on its board
abbrev pub StandingOrdersAreGiven : Chart → Type 0
StandingOrdersAreGiven m = (s : State) → IsLawful m s → AllByRecursion (λ g. AreGiven m g.public.board (orders_of m (whole_of g))) s.games

-- in a lawful state the orders of each game come by power, and a power's by province, as papers print them
abbrev pub StandingOrdersComeByPlace : Chart → Type 0
StandingOrdersComeByPlace m = (s : State) → IsLawful m s → AllByRecursion (λ g. are_by_place (orders_of m (whole_of g)) ≡ true) s.games
