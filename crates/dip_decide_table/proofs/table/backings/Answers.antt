use Rattle.std.proofs.Common.{◌∙◌, None, arith, ap, refl}
use Rattle.std.specs.List.{slice_set}
use Rattle.dip_decide_table.specs.Placed.{backed_of, entry}
use Rattle.dip_decide_table.proofs.Columns.{names_first, names_step}
use Rattle.dip_decide_table.proofs.table.backings.Goals as goal

pub loop-left-init : goal.loop-left-init
loop-left-init c = record {
  backed = names_first (backed_of (entry c.args.rows.now)) None c.args.orders.now c.args.map.now c.in_ok-backed.backed.items refl (rw c.province_count.ensures at c.in_ok-backed.ensures);
  within = omega arith;
}

pub loop-left-preserved : goal.loop-left-preserved
loop-left-preserved c =
    let w = c.loop-left.invariant.within in
    let o = c.index-orders-left.result in
    record {
      backed = c.put_name.ensures ∙ ap (slice_set c.loop-left.backed.items o.unit.place.prov) c.backed_by.ensures
          ∙ names_step (backed_of (entry c.args.rows.now)) c.args.orders.now c.args.map.now c.loop-left.left o c.loop-left.backed.items c.loop-left-test.true w c.index-orders-left.is c.loop-left.invariant.backed;
      within = omega arith;
    }
