-- The laws of checking, as statements.
use Rattle.std.specs.Prelude.{◌≡◌, ◌≤◌, ℕ, true, Contains, List, [], Ok, Some}
use Rattle.dip_names.specs.declared.names.Unit.{Unit as AUnit}
use Rattle.dip_map.specs.Boards.{IsOf, Position}
use Rattle.dip_map.specs.Charts.{Chart, IsMap}
use Rattle.dip_orders.specs.Conditions.{is_movement, is_retreat}
use Rattle.dip_orders.specs.Given.{AreGiven}
use Rattle.dip_orders.specs.Reading.{order_of}
use Rattle.dip_orders_placed.specs.Standing.{found_order, order_among, standing_orders}
use Rattle.dip_orders.specs.Texts.{order_text}
use Rattle.dip_orders_placed.specs.declared.placed.PlacedOrder.{PlacedOrder}
use Rattle.dip_map.specs.declared.boards.Dislodged.{Dislodged}
use Rattle.dip_turn.specs.Retreating.{retreat_order}
use Rattle.dip_desk_state.specs.Records.{Public}
use Rattle.dip_check_papers.specs.Games.{IsNext, IsOpening}

-- a text leaves a game one way at most: the public part before it and the text determine the one after it
abbrev pub PapersHaveOneAnswer : Chart → Type 0
PapersHaveOneAnswer m = (p one other : Public) (text : List ℕ) → IsOf m p.board → p.period ≤ 999999 → IsNext m p text one → IsNext m p text other
    → one ≡ other

-- a text opens one game at most
abbrev pub OpeningsHaveOneAnswer : Chart → Type 0
OpeningsHaveOneAnswer m = (one other : Public) (text : List ℕ) → IsOpening m text one → IsOpening m text other → one ≡ other

-- the order that stands for each unit in a movement is read back from its text, with nothing beside it
abbrev pub StandingIsReadBack : Type 0
StandingIsReadBack = (m : Chart) (b : Position) (orders : List PlacedOrder) (u : AUnit) → IsMap m → IsOf m b → is_movement b.phase.season ≡ true
    → AreGiven m b orders → Contains b.units u → order_of m b u.power [] (order_text m (order_among orders u)) ≡ Ok (order_among orders u)

-- orders among which that of each unit is just the one that stood come to what stood
abbrev pub StandingIsSettled : Type 0
StandingIsSettled = (b : Position) (ps qs : List PlacedOrder)
    → ((u : AUnit) → Contains b.units u → found_order qs u ≡ Some (order_among ps u)) → standing_orders b qs ≡ standing_orders b ps

-- whatever orders are given, each is read back from its text, with nothing beside it: in Winter these are the builds and removals
abbrev pub GivenAreReadBack : Type 0
GivenAreReadBack = (m : Chart) (b : Position) (orders : List PlacedOrder) (o : PlacedOrder) → IsMap m → IsOf m b → AreGiven m b orders
    → Contains orders o → order_of m b o.unit.power [] (order_text m o) ≡ Ok o

-- the order that a paper prints of a dislodged unit
abbrev pub order_printed : List PlacedOrder → Dislodged → PlacedOrder
order_printed orders d = record { unit = d.unit; order = retreat_order orders d }

-- the order that a paper prints of a dislodged unit is read back from its text, with nothing beside it
abbrev pub RetreatsAreReadBack : Type 0
RetreatsAreReadBack = (m : Chart) (b : Position) (orders : List PlacedOrder) (d : Dislodged) → IsMap m → IsOf m b → is_retreat b.phase.season ≡ true
    → AreGiven m b orders → Contains b.dislodged d → order_of m b d.unit.power [] (order_text m (order_printed orders d)) ≡ Ok (order_printed orders d)
