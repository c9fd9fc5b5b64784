use Rattle.dip_store_sql.specs.Calls.{tables_in}
use Rattle.dip_store_sql.proofs.RowFaults.{read_of}
use Rattle.dip_store_looks.proofs.RowLemmas.{desk_found_readable}
use Rattle.dip_store_looks.proofs.desk.look_desk.Goals as goal

pub returns-clause-own : goal.returns-clause-own
returns-clause-own g c kept shows clean m ours =
    let row = rw c.in-Some.is at (c.in_ok-row.ensures.new.value kept clean) in
    read_of _ c.desk_in.result (c.desk_in.ensures.own (desk_found_readable m (tables_in g.S.Store c.args.conn.now) ours c.in-Some.row row))
