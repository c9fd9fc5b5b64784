use Rattle.std.proofs.Common.{◌≡◌, map, sym, subst, ◌∙◌}
use Rattle.std.specs.List.{AllByRecursion}
use Rattle.dip_store_schema.specs.Renewing.{IsVoteReadable}
use Rattle.dip_store_sql.specs.Calls.{old_tables_in}
use Rattle.dip_store_sql.specs.Showing.{show_vote}
use Rattle.dip_store_tables.proofs.KeptLines.{ok_as}
use Rattle.dip_store_schema.proofs.Refused.{outside_more}
use Rattle.dip_store_schema.proofs.Renewed.{ballots_shown, votes_readable}
use Rattle.dip_store_schema.proofs.renewing.old_ballots.Goals as goal

pub returns-clause-value : goal.returns-clause-value
returns-clause-value g c kept clean =
    let rows : c.as_slice.result.now ≡ map show_vote (old_tables_in g.S.Store c.args.conn.now).seats = c.as_slice.ensures.value ∙ c.in_ok-rows.ensures.value kept clean in
    ok_as c.ballots_in.result (λ v is. is ∙ ballots_shown _ (old_tables_in g.S.Store c.args.conn.now).seats rows) c.ballots_in.ensures.value

pub returns-clause-own : goal.returns-clause-own
returns-clause-own g c kept shows clean m ours =
    let rows : c.as_slice.result.now ≡ map show_vote (old_tables_in g.S.Store c.args.conn.now).seats = c.as_slice.ensures.value ∙ c.in_ok-rows.ensures.value kept clean in
    outside_more _ c.ballots_in.result (c.ballots_in.ensures.own (subst (AllByRecursion IsVoteReadable) (sym rows) (votes_readable m (old_tables_in g.S.Store c.args.conn.now) ours)))
