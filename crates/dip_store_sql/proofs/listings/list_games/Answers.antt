use Rattle.std.proofs.Common.{[], refl}
use Rattle.dip_store_sql.specs.Asking.{in_turn}
use Rattle.dip_store_sql.specs.Statements as text
use Rattle.dip_store_sql.proofs.Accepted as accepted
use Rattle.dip_store_sql.proofs.Texts as means
use Rattle.dip_store_sql.proofs.Found.{fails_caused}
use Rattle.dip_store_sql.proofs.Selecting.{old_lasts, selects_all, selects_all_err}
use Rattle.dip_store_sql.proofs.Answering as answers
use Rattle.dip_store_sql.proofs.listings.list_games.Goals as goal

pub returns-in-Ok-clause-value : goal.returns-in-Ok-clause-value
returns-in-Ok-clause-value g c kept clean = answers.list_games _ _ kept.good c.in-Ok.rows.items (c.in-Ok.ensures.ok clean)

pub returns-in-Ok-clause-selects : goal.returns-in-Ok-clause-selects
returns-in-Ok-clause-selects g c =
    selects_all g.S.Store (old_lasts g.S.Store) text.list_games_text [] c.args.conn.now c.query_all.new.self means.list_games.means.1 c.query_all.ensures.survives c.query_all.ensures.mode _ c.in-Ok.rows.items _ c.in-Ok.ensures.ok

pub returns-in-Err : goal.returns-in-Err
returns-in-Err g c = record {
  value = λ _ _. tt;
  selects =
      selects_all_err g.S.Store (old_lasts g.S.Store) text.list_games_text [] c.args.conn.now c.query_all.new.self means.list_games.means.1 c.query_all.ensures.survives c.query_all.ensures.mode _ c.in-Err.error c.in-Err.ensures.err;
  caused = λ kept shows clean.
      fails_caused text.list_games_text [] 0 2 [] text.list_games_shown in_turn _ means.list_games accepted.list_games refl _ _ kept.good.schema kept.unlimited shows.1
      c.in-Err.error (c.in-Err.ensures.err clean);
}
