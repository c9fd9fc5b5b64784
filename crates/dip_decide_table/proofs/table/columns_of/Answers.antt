use Rattle.std.proofs.Common.{◌∙◌, None, arith, false, refl}
use Rattle.dip_decide_table.specs.Matching.{is_convoyed, target_of}
use Rattle.dip_decide_table.specs.Placed.{carried_of}
use Rattle.dip_decide_table.proofs.Columns.{names_first, names_step, rows_first, rows_step}
use Rattle.dip_decide_table.proofs.table.columns_of.Goals as goal

pub loop-left-init : goal.loop-left-init
loop-left-init c =
    let os = c.args.orders.now in
    let m = c.args.map.now in
    let none = c.in_ok-columns.ensures in
    record {
      columns = record {
        rows = rows_first os m c.in_ok-columns.columns.rows.items none.rows;
        targets = names_first target_of None os m c.in_ok-columns.columns.targets.items refl none.targets;
        convoyed = names_first (is_convoyed m) false os m c.in_ok-columns.columns.convoyed.items refl none.convoyed;
        carried = names_first carried_of None os m c.in_ok-columns.columns.carried.items refl none.carried;
      };
      within = omega arith;
    }

pub loop-left-preserved : goal.loop-left-preserved
loop-left-preserved c =
    let os = c.args.orders.now in
    let m = c.args.map.now in
    let w = c.loop-left.invariant.within in
    let before = c.loop-left.invariant.columns in
    let o = c.index-orders-left.result in
    let put = c.put_order.ensures in
    record {
      columns = record {
        rows = put.rows ∙ rows_step os m c.loop-left.left o c.loop-left.columns.rows.items c.loop-left-test.true w c.index-orders-left.is before.rows;
        targets = put.targets ∙ names_step target_of os m c.loop-left.left o c.loop-left.columns.targets.items c.loop-left-test.true w c.index-orders-left.is before.targets;
        convoyed = put.convoyed ∙ names_step (is_convoyed m) os m c.loop-left.left o c.loop-left.columns.convoyed.items c.loop-left-test.true w c.index-orders-left.is before.convoyed;
        carried = put.carried ∙ names_step carried_of os m c.loop-left.left o c.loop-left.columns.carried.items c.loop-left-test.true w c.index-orders-left.is before.carried;
      };
      within = omega arith;
    }
