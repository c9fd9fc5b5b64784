-- Who is named by an order that matches stands in a province of the table, and so does whose order it is.
use Rattle.std.proofs.Common.{◌≡◌, ℕ, refl, sym}
use Rattle.std.specs.Prelude.{Bool, true, false, ◌&&◌, Option, None, Some, is_some}
use Rattle.std.proofs.lemmas.Bool.{both_ways, and_parts}
use Rattle.dip_map.specs.Charts.{Chart}
use Rattle.dip_orders_placed.specs.declared.placed.Order.{Order}
use Rattle.dip_orders_placed.specs.declared.placed.Order.TheVariants.{Hold, Move, SupportHold, SupportMove, Convoy, Retreat, Disband, Build, Remove}
use Rattle.dip_orders_placed.specs.declared.placed.Other.{Other}
use Rattle.dip_orders_placed.specs.declared.placed.PlacedOrder.{PlacedOrder}
use Rattle.dip_decide_table.specs.declared.placed.Table.{Table}
use Rattle.dip_decide_table.specs.Rows.{situation_of}
use Rattle.dip_decide_table.specs.Matching.{Standing, is_there, is_matched, supports_in, convoys_in}
use Rattle.dip_decide_table.specs.Situations.{is_listed}
use Rattle.dip_decide_table.specs.Placed.{entry}

pub and_when : (x y : Bool) → (x ≡ true → y ≡ true) → x ≡ (x && y)
and_when true y h = sym (h refl)
and_when false y h = refl

there_some : (at : Other) (o : Option PlacedOrder) → is_there at o ≡ true → is_some o ≡ true
there_some at None h = absurd (both_ways false refl h)
there_some at (Some o) h = refl

matched_some : (who : Standing) (o : Order) (p : ℕ) → is_matched who o p ≡ true → is_some (who p) ≡ true
matched_some who (SupportHold at) p h = there_some at (who p) (and_parts _ _ (and_parts _ _ h).1).0
matched_some who (SupportMove at to) p h = there_some at (who p) (and_parts _ _ (and_parts _ _ h).1).0
matched_some who Hold p h = absurd (both_ways false refl h)
matched_some who (Move to via) p h = absurd (both_ways false refl h)
matched_some who (Convoy at to) p h = absurd (both_ways false refl h)
matched_some who (Retreat to) p h = absurd (both_ways false refl h)
matched_some who Disband p h = absurd (both_ways false refl h)
matched_some who Build p h = absurd (both_ways false refl h)
matched_some who Remove p h = absurd (both_ways false refl h)

supported_some : (who : Standing) (row : Option PlacedOrder) (p : ℕ) → supports_in who row p ≡ true → is_some (who p) ≡ true
supported_some who None p h = absurd (both_ways false refl h)
supported_some who (Some o) p h = matched_some who o.order p h

-- whom a unit supports
pub supported_listed : (t : Table) (row : Option PlacedOrder) (p : ℕ) → supports_in (entry t.rows.items) row p ≡ true → is_listed t.places.items p ≡ true
supported_listed t row p h = t.standing p (supported_some (entry t.rows.items) row p h)

convoying_some : (m : Chart) (who : Standing) (row : Option PlacedOrder) (p : ℕ) → convoys_in m who row p ≡ true → is_some row ≡ true
convoying_some m who None p h = absurd (both_ways false refl h)
convoying_some m who (Some o) p h = refl

-- who convoys a unit
pub carrying_listed : (t : Table) (x p : ℕ) → (situation_of t).convoys x p ≡ true → is_listed t.places.items x ≡ true
carrying_listed t x p h = t.standing x (convoying_some t.map.now (entry t.rows.items) (entry t.rows.items x) p h)
