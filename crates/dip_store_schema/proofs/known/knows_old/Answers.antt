use Rattle.std.proofs.Common.{arith}
use Rattle.dip_store_sql.proofs.Selecting.{old_lasts}
use Rattle.dip_store_schema.specs.Known.{HasOldTables}
use Rattle.dip_store_schema.proofs.Quiet.{alone_selects}
use Rattle.dip_store_sql.proofs.Fronts as whole
use Rattle.dip_store_schema.proofs.Ours.{all_known, known_of_old}
use Rattle.dip_store_schema.proofs.known.knows_old.Goals as goal

pub returns : goal.returns
returns g c =
    let it = c.knows_each.ensures in
    record {
      answer = it.answer;
      ours = λ clean is. all_known c.knows_each.result (HasOldTables c.args.conn.now.schema) (it.answer clean) (known_of_old c.args.conn.now.schema is);
      selects = alone_selects g.S.Store (old_lasts g.S.Store) c.args.conn.now c.knows_each.new.conn c.knows_each.result it.alone (λ clean. it.shown clean (omega arith));
      alone = it.alone;
      shown = λ clean. it.shown clean (omega arith);
      outside = λ clean up.
          it.outside clean up (whole.find_desk, (whole.find_game, (whole.list_seats, (whole.list_units, (whole.list_centres, (whole.list_orders, (whole.find_item, (whole.find_paper, tt))))))));
    }
