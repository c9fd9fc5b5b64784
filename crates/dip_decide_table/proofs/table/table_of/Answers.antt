use Rattle.std.proofs.Common.{◌≡◌, ◌∙◌, ap, map, sym, List}
use Rattle.std.specs.Prelude.{Option}
use Rattle.dip_orders_placed.specs.declared.placed.PlacedOrder.{PlacedOrder}
use Rattle.dip_decide_table.specs.Rows.{rows_of}
use Rattle.dip_decide_table.specs.Placed.{backings_among, carried_of, convoyed_of, entry, targets_of}
use Rattle.dip_decide_table.proofs.TableLaws.{rows_listed, seen_law}
use Rattle.dip_decide_table.proofs.table.table_of.Goals as goal

pub returns : goal.returns
returns c = seen_law c.args.map.now c.args.orders.now _ _ c.in_ok-places.ensures c.in_ok-rows.ensures.rows c.requires.within

pub invariant_of-result : goal.invariant_of-result
invariant_of-result c =
    let all : List (Option PlacedOrder) = rows_of c.args.orders.now c.args.map.now in
    let rows : List (Option PlacedOrder) = c.in_ok-rows.field-0.rows.items in
    let own : rows ≡ all = c.in_ok-rows.ensures.rows in
    let aims = c.in_ok-rows.ensures.targets ∙ ap targets_of (sym own) in
    let sails = c.in_ok-rows.ensures.convoyed ∙ ap (convoyed_of c.args.map.now) (sym own) in
    let carries = c.in_ok-rows.ensures.carried ∙ ap (map carried_of) (sym own) in
    let backs = (rw c.as_slice.ensures.value at c.in_ok-backed.ensures) ∙ ap (backings_among (entry rows)) (sym own) in
    record {
      aiming = aims;
      sailing = sails;
      backing = backs;
      standing = rows_listed c.args.map.now c.args.orders.now _ _ c.in_ok-places.ensures own c.requires.within;
      moving = λ q. rw c.as_slice-2.ensures.value at (c.in_ok-movers.ensures rows (c.as_slice-3.ensures.value ∙ aims) q);
      helping = λ q. rw c.as_slice-4.ensures.value at (c.in_ok-helpers.ensures rows (c.as_slice-5.ensures.value ∙ backs) q);
      carrying = λ q. rw c.as_slice-6.ensures.value at (c.in_ok-carriers.ensures rows (c.as_slice-7.ensures.value ∙ carries) q);
    }
