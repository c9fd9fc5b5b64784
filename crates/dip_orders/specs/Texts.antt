-- The one text of an order.
use Rattle.std.specs.Prelude.{◌≡◌, ℕ, Bool, List, [], ◌∷◌, ◌++◌, codes, if◌then◌else◌}
use Rattle.dip_names.specs.declared.names.Kind.{Kind}
use Rattle.dip_names.specs.declared.names.Kind.TheVariants.{Army, Fleet}
use Rattle.dip_names.specs.declared.names.Place.{Place}
use Rattle.dip_names.specs.declared.names.Unit.{Unit}
use Rattle.dip_orders_placed.specs.declared.placed.Other.{Other}
use Rattle.dip_orders_placed.specs.declared.placed.Order.{Order}
use Rattle.dip_orders_placed.specs.declared.placed.Order.TheVariants.{Hold, Move, SupportHold, SupportMove, Convoy, Retreat, Disband, Build, Remove}
use Rattle.dip_orders_placed.specs.declared.placed.PlacedOrder.{PlacedOrder}
use Rattle.dip_map.specs.Charts.{Chart, province, shore}

-- a coast's name after a slash, nothing where there is none
abbrev pub behind_slash : List ℕ → List ℕ
behind_slash [] = []
behind_slash (b ∷ bs) = 47 ∷ b ∷ bs

-- the place of a unit: its province's code, and for a fleet its coast
abbrev pub place_text : Chart → Kind → Place → List ℕ
place_text m Army a = (province m a.prov).code
place_text m Fleet a = (province m a.prov).code ++ behind_slash (shore m a).name

-- the letter of a kind, and a space
abbrev pub kind_letter : Kind → List ℕ
kind_letter Army = codes "A "
kind_letter Fleet = codes "F "

-- a unit: `A par`, `F edi`, `F stp/sc`
unfoldable pub unit_text : Chart → Unit → List ℕ
unit_text m u = kind_letter u.kind ++ place_text m u.kind u.place

-- the unit that a support or a convoy names, without a coast
abbrev pub other_text : Chart → Other → List ℕ
other_text m at = kind_letter at.kind ++ (province m at.prov).code

-- by convoy
abbrev pub via_text : Bool → List ℕ
via_text via = if via then codes " VIA" else []

-- what stands before the unit that is built or removed
abbrev pub verb_text : Order → List ℕ
verb_text Hold = []
verb_text (Move to via) = []
verb_text (SupportHold at) = []
verb_text (SupportMove at to) = []
verb_text (Convoy at to) = []
verb_text (Retreat to) = []
verb_text Disband = []
verb_text Build = codes "BUILD "
verb_text Remove = codes "REMOVE "

-- what a unit is to do
abbrev pub action_text : Chart → Kind → Order → List ℕ
action_text m kind Hold = codes " H"
action_text m kind (Move to via) = codes " - " ++ place_text m kind to ++ via_text via
action_text m kind (SupportHold at) = codes " S " ++ other_text m at
action_text m kind (SupportMove at to) = codes " S " ++ other_text m at ++ codes " - " ++ (province m to).code
action_text m kind (Convoy at to) = codes " C " ++ other_text m at ++ codes " - " ++ (province m to).code
action_text m kind (Retreat to) = codes " R " ++ place_text m kind to
action_text m kind Disband = codes " D"
action_text m kind Build = []
action_text m kind Remove = []

-- the canonical text of an order
abbrev pub order_text : Chart → PlacedOrder → List ℕ
order_text m o = verb_text o.order ++ (kind_letter o.unit.kind ++ (place_text m o.unit.kind o.unit.place ++ action_text m o.unit.kind o.order))

-- a text that stood is as it was, and more may stand after it
pub record Extends (old new : List ℕ) : Type 0 where
  pub rest : List ℕ
  pub same : new ≡ old ++ rest
