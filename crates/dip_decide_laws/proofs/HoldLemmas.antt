-- The situation of orders in which some units hold.
use Rattle.std.proofs.Common.{◌≡◌, ℕ, List, [], ◌∷◌, refl, ◌∙◌}
use Rattle.std.specs.Prelude.{◌==◌, Bool, true, false, cond, Option, None, Some, is_some, option_map}
use Rattle.std.proofs.lemmas.Bool.{and_parts, and_from}
use Rattle.dip_names.specs.declared.names.Kind.{Kind}
use Rattle.dip_names.specs.declared.names.Kind.TheVariants.{Army, Fleet}
use Rattle.dip_map.specs.Charts.{Chart}
use Rattle.dip_map.specs.Boards.{Position}
use Rattle.dip_orders_placed.specs.Standing.{is_in_force, are_in_force, units_of}
use Rattle.dip_orders_placed.specs.declared.placed.Other.{Other}
use Rattle.dip_orders_placed.specs.declared.placed.Order.TheVariants.{Hold}
use Rattle.dip_orders_placed.specs.declared.placed.PlacedOrder.{PlacedOrder}
use Rattle.dip_decide.specs.Laws.{AreOrders}
use Rattle.dip_decide.specs.Matching.{goes_by_convoy, is_there, is_one_power, order_at, provinces_of, situation}
use Rattle.dip_decide.specs.Movement.{Situation}
use Rattle.dip_decide_laws.specs.Words.{prov, held_if, holding}

-- an order to hold of the same unit
abbrev pub held : PlacedOrder → PlacedOrder
held o = record { unit = o.unit; order = Hold }

module _ (test : PlacedOrder → Bool) where
  unit_kept : (o : PlacedOrder) → (held_if test o).unit ≡ o.unit
  unit_kept o = go (test o)
    where
      go : (b : Bool) → (cond b (held o) o).unit ≡ o.unit
      go true = refl
      go false = refl

  pub units_kept : (orders : List PlacedOrder) → units_of (holding test orders) ≡ units_of orders
  units_kept [] = refl
  units_kept (o ∷ orders) = rw (unit_kept o, units_kept orders) refl

  pub provinces_kept : (orders : List PlacedOrder) → provinces_of (holding test orders) ≡ provinces_of orders
  provinces_kept [] = refl
  provinces_kept (o ∷ orders) = rw (unit_kept o, provinces_kept orders) refl

  force_kept : (o : PlacedOrder) → is_in_force o ≡ true → is_in_force (held_if test o) ≡ true
  force_kept o h = go (test o)
    where
      go : (b : Bool) → is_in_force (cond b (held o) o) ≡ true
      go true = refl
      go false = h

  forces_kept : (orders : List PlacedOrder) → are_in_force orders ≡ true → are_in_force (holding test orders) ≡ true
  forces_kept [] h = refl
  forces_kept (o ∷ orders) h = let e = and_parts (is_in_force o) _ h in and_from _ _ (force_kept o e.0) (forces_kept orders e.1)

  pub orders_kept : (m : Chart) (b : Position) (orders : List PlacedOrder) → AreOrders m b orders → AreOrders m b (holding test orders)
  orders_kept m b orders o = record { is_of = o.is_of; units = units_kept orders ∙ o.units; in_force = forces_kept orders o.in_force }

  -- the order of the unit in each province
  pub standing_kept : (orders : List PlacedOrder) (p : ℕ) → order_at (holding test orders) p ≡ option_map (held_if test) (order_at orders p)
  standing_kept [] p = refl
  standing_kept (o ∷ orders) p = rw (unit_kept o, standing_kept orders p) (go (prov o == p))
    where
      go : (b : Bool) → cond b (Some (held_if test o)) (option_map (held_if test) (order_at orders p)) ≡ option_map (held_if test) (cond b (Some o) (order_at orders p))
      go true = refl
      go false = refl

  some_kept : (o : Option PlacedOrder) → is_some (option_map (held_if test) o) ≡ is_some o
  some_kept None = refl
  some_kept (Some o) = refl

  power_kept : (o w : Option PlacedOrder) → is_one_power (option_map (held_if test) o) (option_map (held_if test) w) ≡ is_one_power o w
  power_kept None w = refl
  power_kept (Some o) None = refl
  power_kept (Some o) (Some w) = rw (unit_kept o, unit_kept w) refl

  there_kept : (at : Other) (o : Option PlacedOrder) → is_there at (option_map (held_if test) o) ≡ is_there at o
  there_kept at None = refl
  there_kept at (Some o) = rw (unit_kept o) refl

  pub occupied_kept : (m : Chart) (orders : List PlacedOrder) (p : ℕ) → (situation m (holding test orders)).is_occupied p ≡ (situation m orders).is_occupied p
  occupied_kept m orders p = rw (standing_kept orders p) (some_kept (order_at orders p))

  pub powers_kept : (m : Chart) (orders : List PlacedOrder) (p q : ℕ) → (situation m (holding test orders)).same_power p q ≡ (situation m orders).same_power p q
  powers_kept m orders p q = rw (standing_kept orders p, standing_kept orders q) (power_kept (order_at orders p) (order_at orders q))

  pub theres_kept : (orders : List PlacedOrder) (at : Other) (p : ℕ) → is_there at (order_at (holding test orders) p) ≡ is_there at (order_at orders p)
  theres_kept orders at p = rw (standing_kept orders p) (there_kept at (order_at orders p))

  -- the order of a unit that holds instead, and of one that doesn't
  pub changed : (o : PlacedOrder) → test o ≡ true → held_if test o ≡ held o
  changed o h = rw h refl

  pub unchanged : (o : PlacedOrder) → test o ≡ false → held_if test o ≡ o
  unchanged o h = rw h refl

pub hold_walks : (m : Chart) (k : Kind) (p : ℕ) → goes_by_convoy m k p Hold ≡ false
hold_walks m Army p = refl
hold_walks m Fleet p = refl

-- the parts of a situation
abbrev pub made : List ℕ → (ℕ → Bool) → (ℕ → ℕ → Bool) → (ℕ → Option ℕ) → (ℕ → Bool) → (ℕ → ℕ → Bool) → (ℕ → Option ℕ) → (ℕ → ℕ → Bool) → (ℕ → ℕ → Bool) → Situation
made places occupied power target convoyed supports aim convoys next = record {
  places = places;
  is_occupied = occupied;
  same_power = power;
  target = target;
  convoyed = convoyed;
  supports = supports;
  aim = aim;
  convoys = convoys;
  next = next;
}

-- situations that are equal in every part
pub alike : (places places' : List ℕ) (occupied occupied' : ℕ → Bool) (power power' : ℕ → ℕ → Bool) (target target' : ℕ → Option ℕ) (convoyed convoyed' : ℕ → Bool)
    (supports supports' : ℕ → ℕ → Bool) (aim aim' : ℕ → Option ℕ) (convoys convoys' next : ℕ → ℕ → Bool)
    → places' ≡ places → occupied' ≡ occupied → power' ≡ power → target' ≡ target → convoyed' ≡ convoyed → supports' ≡ supports → aim' ≡ aim → convoys' ≡ convoys
    → made places' occupied' power' target' convoyed' supports' aim' convoys' next ≡ made places occupied power target convoyed supports aim convoys next
alike places places' occupied occupied' power power' target target' convoyed convoyed' supports supports' aim aim' convoys convoys' next a b c d e f g h = rw (a, b, c, d, e, f, g, h) refl
