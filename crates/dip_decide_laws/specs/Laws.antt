-- The laws of movement in a player's words, as statements.
use Rattle.std.specs.Prelude.{◌≡◌, ◌≢◌, ℕ, ◌<◌, ◌≤◌, ◌↔◌, Bool, true, false, Contains, List, [], ◌∷◌, length}
use Rattle.dip_names.specs.declared.names.Kind.TheVariants.{Army, Fleet}
use Rattle.dip_names.specs.declared.names.Place.{Place}
use Rattle.dip_names.specs.declared.names.Terrain.TheVariants.{Sea}
use Rattle.dip_map.specs.Charts.{Chart, is_fleet_next, province}
use Rattle.dip_map.specs.Boards.{Position}
use Rattle.dip_orders_placed.specs.declared.placed.Other.{Other}
use Rattle.dip_orders_placed.specs.declared.placed.Order.TheVariants.{Convoy}
use Rattle.dip_orders_placed.specs.declared.placed.PlacedOrder.{PlacedOrder}
use Rattle.dip_decide.specs.Decision.TheVariants.{Move as Moves, Path as Paths}
use Rattle.dip_decide.specs.Deciding.{Assignment, Step}
use Rattle.dip_decide.specs.Laws.{AreOrders}
use Rattle.dip_decide.specs.Meaning.{are_coastal, meant_of, meant_on, situation_on}
use Rattle.dip_decide.specs.Results.{AreExplained}
use Rattle.dip_decide_laws.specs.Words.{IsDecided, is_a_convoy, prov, moves, goes_to, goes_itself, are_head_to_head, names, helps, is_support_into, has_moved, has_helped, was_carried, HasWay, has_entered, was_dislodged_by, WasDislodged, helpers, helpers_but, holding, is_a_support, is_in, is_in_or_stays}

-- what steps explain is a movement that was decided, of the orders as they are meant
abbrev pub ExplainedIsDecided : Type 0
ExplainedIsDecided =
    (m : Chart) (b : Position) (orders : List PlacedOrder) (steps : List Step) (a : Assignment)
    → AreOrders m b orders → AreExplained (situation_on m b orders) steps a → IsDecided m b (meant_on m b orders) a

-- a fleet of an army's own power in a sea, ordered to convoy that army to that province
pub record IsOwnCarrier (m : Chart) (orders : List PlacedOrder) (o : PlacedOrder) (q : ℕ) (x : PlacedOrder) : Type 0 where
  pub ordered : Contains orders x
  pub own : x.unit.power ≡ o.unit.power
  pub fleet : x.unit.kind ≡ Fleet
  pub at_sea : (province m (prov x)).terrain ≡ Sea
  pub at : Other
  pub named : names at o ≡ true
  pub convoys : x.order ≡ Convoy at q

-- a unit that would walk is meant to go by convoy: an army between two coastal provinces, which a fleet of its own power is to carry
pub record IsCarriedByOwn (m : Chart) (orders : List PlacedOrder) (o : PlacedOrder) (q : ℕ) : Type 0 where
  pub army : o.unit.kind ≡ Army
  pub coasts : are_coastal m (prov o) q ≡ true
  pub carrier : PlacedOrder
  pub carries : IsOwnCarrier m orders o q carrier

-- with the option INTENT a unit that would go by itself goes by convoy exactly where a fleet of its own power is to carry it
abbrev pub OwnFleetsCarry : Type 0
OwnFleetsCarry =
    (m : Chart) (orders : List PlacedOrder) (o : PlacedOrder) (q : ℕ) → goes_to o q ≡ true → goes_itself m o ≡ true
    → (goes_itself m (meant_of m orders o) ≡ false) ↔ IsCarriedByOwn m orders o q

-- whatever the option, units and where they are sent to stay, and so do all orders but moves
pub record MeansTheSame (o meant : PlacedOrder) : Type 0 where
  pub unit : meant.unit ≡ o.unit
  pub goes : (q : ℕ) → goes_to meant q ≡ goes_to o q
  pub others : moves o ≡ false → meant ≡ o

abbrev pub MeaningKeepsOrders : Type 0
MeaningKeepsOrders = (m : Chart) (orders : List PlacedOrder) (o : PlacedOrder) → MeansTheSame o (meant_of m orders o)

-- that units hold which aren't ordered to convoy leaves what the others mean
abbrev pub HoldingKeepsMeaning : Type 0
HoldingKeepsMeaning =
    (m : Chart) (b : Position) (orders : List PlacedOrder) (test : PlacedOrder → Bool)
    → ((o : PlacedOrder) → test (meant_of m orders o) ≡ test o)
    → ((o : PlacedOrder) → Contains orders o → test o ≡ true → is_a_convoy o.order ≡ false)
    → meant_on m b (holding test orders) ≡ holding test (meant_on m b orders)

-- the support of a dislodged unit isn't given
abbrev pub DislodgedGiveNoSupport : Type 0
DislodgedGiveNoSupport =
    (m : Chart) (b : Position) (orders : List PlacedOrder) (a : Assignment) (h : PlacedOrder)
    → IsDecided m b orders a → Contains orders h → WasDislodged a orders h → has_helped a h ≡ false

-- what cut a support: a unit of another power was ordered into the supporter's province, by itself or carried by fleets; and where it
-- came from the province into which the support was, it dislodged the supporter
pub record IsCutBy (m : Chart) (a : Assignment) (h w : PlacedOrder) : Type 0 where
  pub attacks : goes_to w (prov h) ≡ true
  pub foreign : w.unit.power ≢ h.unit.power
  pub comes : HasWay m a w
  pub dislodges : is_support_into h.order (prov w) ≡ true → was_dislodged_by a h w ≡ true

-- a support of what a unit does that wasn't given was cut by a unit of another power
abbrev pub NoPowerCutsItsOwn : Type 0
NoPowerCutsItsOwn =
    (m : Chart) (b : Position) (orders : List PlacedOrder) (a : Assignment) (h o : PlacedOrder)
    → IsDecided m b orders a → Contains orders h → Contains orders o → helps h o ≡ true → has_helped a h ≡ false
    → (w : PlacedOrder) × Contains orders w × IsCutBy m a h w

-- what it takes to dislodge a unit: a unit of another power, supported by other powers than the dislodged unit's. They are more than
-- support the unit to stay, where it has no move, or to move, where the two are head to head
pub record IsOverpowered (m : Chart) (a : Assignment) (orders : List PlacedOrder) (o w : PlacedOrder) : Type 0 where
  pub foreign : w.unit.power ≢ o.unit.power
  pub helped : 0 < helpers_but a orders w o.unit.power
  pub stayed : moves o ≡ false → helpers a orders o < helpers_but a orders w o.unit.power
  pub faced : are_head_to_head m o w ≡ true → helpers a orders o < helpers_but a orders w o.unit.power

-- no unit is dislodged by its own power, or by help of its own power's supports
abbrev pub DislodgedByOthersAlone : Type 0
DislodgedByOthersAlone =
    (m : Chart) (b : Position) (orders : List PlacedOrder) (a : Assignment) (o w : PlacedOrder)
    → IsDecided m b orders a → Contains orders o → Contains orders w → was_dislodged_by a o w ≡ true → IsOverpowered m a orders o w

-- each unit that goes to that province, but these two, has less support than the second of them
abbrev pub AreRivalsWeaker : Assignment → List PlacedOrder → ℕ → PlacedOrder → PlacedOrder → Type 0
AreRivalsWeaker a orders q loser w =
    (x : PlacedOrder) → Contains orders x → goes_to x q ≡ true → prov x ≢ prov loser → prov x ≢ prov w → helpers a orders x < helpers a orders w

-- the loser of a battle head to head prevents nobody: of all others who go to the winner's province the one with the most support,
-- if it has a way, comes there, whatever support the loser has
abbrev pub LosersPreventNobody : Type 0
LosersPreventNobody =
    (m : Chart) (b : Position) (orders : List PlacedOrder) (a : Assignment) (loser winner w : PlacedOrder)
    → IsDecided m b orders a → Contains orders loser → Contains orders winner → Contains orders w
    → are_head_to_head m loser winner ≡ true → has_moved a winner ≡ true
    → goes_to w (prov winner) ≡ true → prov w ≢ prov loser → HasWay m a w
    → AreRivalsWeaker a orders (prov winner) loser w → has_moved a w ≡ true

-- no unit that is head to head with it succeeds
abbrev pub IsNoLoser : Chart → Assignment → List PlacedOrder → PlacedOrder → Type 0
IsNoLoser m a orders x = (v : PlacedOrder) → Contains orders v → are_head_to_head m x v ≡ true → has_moved a v ≡ false

-- who enters a province has more support than each other unit that goes there and has a way, but for losers: of equals none enters
abbrev pub EnterersAreStrongest : Type 0
EnterersAreStrongest =
    (m : Chart) (b : Position) (orders : List PlacedOrder) (a : Assignment) (w x : PlacedOrder) (q : ℕ)
    → IsDecided m b orders a → Contains orders w → Contains orders x
    → has_entered a w q ≡ true → goes_to x q ≡ true → prov x ≢ prov w → HasWay m a x → IsNoLoser m a orders x
    → helpers a orders x < helpers a orders w

-- each other unit that goes to that province has less support than n
abbrev pub AreOthersBelow : Assignment → List PlacedOrder → ℕ → PlacedOrder → ℕ → Type 0
AreOthersBelow a orders q w n = (x : PlacedOrder) → Contains orders x → goes_to x q ≡ true → prov x ≢ prov w → helpers a orders x < n

-- who stands there leaves, and isn't head to head with that unit; or nobody stands there
abbrev pub IsLeft : Chart → Assignment → List PlacedOrder → ℕ → PlacedOrder → Type 0
IsLeft m a orders q w = (o : PlacedOrder) → Contains orders o → prov o ≡ q → (has_moved a o ≡ true) × (are_head_to_head m w o ≡ false)

-- a province that is empty, or is left, is entered by the one with the most support, if it has a way
abbrev pub StrongestEnter : Type 0
StrongestEnter =
    (m : Chart) (b : Position) (orders : List PlacedOrder) (a : Assignment) (w : PlacedOrder) (q : ℕ)
    → IsDecided m b orders a → Contains orders w → goes_to w q ≡ true → HasWay m a w → IsLeft m a orders q w
    → AreOthersBelow a orders q w (helpers a orders w) → has_moved a w ≡ true

-- a unit that stays and is overpowered is dislodged, where support of other powers is more than each other unit's that goes there
abbrev pub OverpoweredAreDislodged : Type 0
OverpoweredAreDislodged =
    (m : Chart) (b : Position) (orders : List PlacedOrder) (a : Assignment) (o w : PlacedOrder)
    → IsDecided m b orders a → Contains orders o → Contains orders w → has_moved a o ≡ false
    → goes_to w (prov o) ≡ true → HasWay m a w → IsOverpowered m a orders o w
    → AreOthersBelow a orders (prov o) w (helpers_but a orders w o.unit.power) → was_dislodged_by a o w ≡ true

-- a unit without a move stays where it is, and is dislodged only where another unit entered
pub record Stays (a : Assignment) (orders : List PlacedOrder) (o : PlacedOrder) : Type 0 where
  pub remains : has_moved a o ≡ false
  pub kept : ((w : PlacedOrder) → Contains orders w → has_entered a w (prov o) ≡ false) → WasDislodged a orders o → ⊥

abbrev pub UnitsWithoutMovesStay : Type 0
UnitsWithoutMovesStay =
    (m : Chart) (b : Position) (orders : List PlacedOrder) (a : Assignment) (o : PlacedOrder)
    → IsDecided m b orders a → Contains orders o → moves o ≡ false → Stays a orders o

-- a fleet goes from one province to the other, from some coast to some coast
pub record AreNextAtSea (m : Chart) (p q : ℕ) : Type 0 where
  pub from : Place
  pub to : Place
  pub starts : from.prov ≡ p
  pub ends : to.prov ≡ q
  pub next : is_fleet_next m from to ≡ true

-- a fleet in a sea that was ordered to carry that unit to that province, and wasn't dislodged
pub record Carries (m : Chart) (a : Assignment) (orders : List PlacedOrder) (o : PlacedOrder) (q : ℕ) (x : PlacedOrder) : Type 0 where
  pub ordered : Contains orders x
  pub fleet : x.unit.kind ≡ Fleet
  pub at_sea : (province m (prov x)).terrain ≡ Sea
  pub at : Other
  pub named : names at o ≡ true
  pub convoys : x.order ≡ Convoy at q
  pub stayed : WasDislodged a orders x → ⊥

-- from p these fleets carry that unit to q, one after another
abbrev pub AreCarrying : Chart → Assignment → List PlacedOrder → PlacedOrder → ℕ → ℕ → List PlacedOrder → Type 0
AreCarrying m a orders o q p [] = AreNextAtSea m p q
AreCarrying m a orders o q p (x ∷ xs) = AreNextAtSea m p (prov x) × Carries m a orders o q x × AreCarrying m a orders o q (prov x) xs

-- one fleet or more carry that unit from its province to q
abbrev pub IsCarried : Chart → Assignment → List PlacedOrder → PlacedOrder → ℕ → Type 0
IsCarried m a orders o q = (fleets : List PlacedOrder) × (1 ≤ length fleets) × AreCarrying m a orders o q (prov o) fleets

-- who comes by convoy was carried by fleets that weren't dislodged
abbrev pub DislodgedFleetsCarryNobody : Type 0
DislodgedFleetsCarryNobody =
    (m : Chart) (b : Position) (orders : List PlacedOrder) (a : Assignment) (o : PlacedOrder) (q : ℕ)
    → IsDecided m b orders a → Contains orders o → goes_itself m o ≡ false → has_entered a o q ≡ true → IsCarried m a orders o q

-- a support that matches nothing that a unit does changes nothing: what comes of the orders comes of them where its unit holds
abbrev pub UnmatchedChangesNothing : Type 0
UnmatchedChangesNothing =
    (m : Chart) (b : Position) (orders : List PlacedOrder) (a : Assignment) (h : PlacedOrder)
    → AreOrders m b orders → Contains orders h → is_a_support h.order ≡ true
    → ((o : PlacedOrder) → Contains orders o → helps h o ≡ false)
    → IsDecided m b orders a ↔ IsDecided m b (holding (is_in (prov h)) orders) a

-- a support that matches nothing that a unit does isn't given
abbrev pub UnmatchedIsVoid : Type 0
UnmatchedIsVoid =
    (m : Chart) (b : Position) (orders : List PlacedOrder) (a : Assignment) (h : PlacedOrder)
    → IsDecided m b orders a → Contains orders h → is_a_support h.order ≡ true
    → ((o : PlacedOrder) → Contains orders o → helps h o ≡ false) → has_helped a h ≡ false

-- what comes of orders is what came of others, but for the supports of that unit's move
pub record IsTheSameBut (orders : List PlacedOrder) (o : PlacedOrder) (old new : Assignment) : Type 0 where
  pub moved : (p : ℕ) → new (Moves p) ≡ old (Moves p)
  pub carried : (p : ℕ) → new (Paths p) ≡ old (Paths p)
  pub helped : (h : PlacedOrder) → Contains orders h → helps h o ≡ false → has_helped new h ≡ has_helped old h

-- a move by convoy without a path changes nothing: the same comes of the orders in which its unit holds, and nobody supports it to stay
abbrev pub PathlessChangesNothing : Type 0
PathlessChangesNothing =
    (m : Chart) (b : Position) (orders : List PlacedOrder) (a : Assignment) (o : PlacedOrder)
    → IsDecided m b orders a → Contains orders o → goes_itself m o ≡ false → was_carried a o ≡ false
    → (new : Assignment) × IsDecided m b (holding (is_in_or_stays (prov o)) orders) new × IsTheSameBut orders o a new
