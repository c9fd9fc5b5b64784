use Rattle.std.proofs.Common.{◌≡◌, map, sym, subst, ◌∙◌}
use Rattle.std.specs.List.{AllByRecursion}
use Rattle.dip_store_sql.specs.Values.{HasText}
use Rattle.dip_store_sql.specs.Calls.{old_tables_in}
use Rattle.dip_store_sql.specs.Showing.{show_name}
use Rattle.dip_store_tables.proofs.KeptLines.{ok_as}
use Rattle.dip_store_schema.proofs.Refused.{outside_more}
use Rattle.dip_store_schema.proofs.Renewed.{names_shown, names_readable}
use Rattle.dip_store_schema.proofs.renewing.old_games.Goals as goal

pub returns-clause-value : goal.returns-clause-value
returns-clause-value g c kept clean =
    let rows : c.as_slice.result.now ≡ map show_name (old_tables_in g.S.Store c.args.conn.now).games = c.as_slice.ensures.value ∙ c.in_ok-rows.ensures.value kept clean in
    ok_as c.names_in.result (λ v is. is ∙ names_shown _ (old_tables_in g.S.Store c.args.conn.now).games rows) c.names_in.ensures.value

pub returns-clause-own : goal.returns-clause-own
returns-clause-own g c kept shows clean m ours =
    let rows : c.as_slice.result.now ≡ map show_name (old_tables_in g.S.Store c.args.conn.now).games = c.as_slice.ensures.value ∙ c.in_ok-rows.ensures.value kept clean in
    outside_more _ c.names_in.result (c.names_in.ensures.own (subst (AllByRecursion (λ r. HasText r 0)) (sym rows) (names_readable (old_tables_in g.S.Store c.args.conn.now).games ours.names)))
