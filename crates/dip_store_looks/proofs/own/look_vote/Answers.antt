use Rattle.dip_store_sql.specs.Calls.{tables_in}
use Rattle.dip_store_sql.proofs.RowFaults.{read_of}
use Rattle.dip_store_looks.proofs.RowLemmas.{ballot_found_readable}
use Rattle.dip_store_looks.proofs.own.look_vote.Goals as goal

pub returns-in-Some-clause-own : goal.returns-in-Some-clause-own
returns-in-Some-clause-own g c kept shows clean ours =
    let row = rw c.in-Some.is at (c.in_ok-row.ensures.value kept clean) in
    read_of _ c.vote_on.result (c.vote_on.ensures.own (ballot_found_readable c.args.map.now (tables_in g.S.Store c.args.conn.now) ours c.args.game.now c.args.power.now c.in-Some.row row))
