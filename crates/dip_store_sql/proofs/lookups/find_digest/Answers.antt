use Rattle.std.proofs.Common.{[], ◌∷◌, refl}
use Rattle.sqlite.specs.declared.types.Value.TheVariants.{Text as Words}
use Rattle.dip_store_sql.specs.Asking.{by_two}
use Rattle.dip_store_sql.specs.Statements as text
use Rattle.dip_store_sql.proofs.Accepted as accepted
use Rattle.dip_store_sql.proofs.Texts as means
use Rattle.dip_store_sql.proofs.Found.{fails_caused}
use Rattle.dip_store_sql.proofs.Selecting.{kept_lasts, selects_all, selects_all_err}
use Rattle.dip_store_sql.proofs.Answering as answers
use Rattle.dip_store_sql.proofs.lookups.find_digest.Goals as goal

pub returns-in-Ok-clause-value : goal.returns-in-Ok-clause-value
returns-in-Ok-clause-value g c kept clean = c.only.ensures _ (answers.find_digest _ _ kept.good c.args.game.now c.args.power.now c.in-Ok.rows.items (rw (c.params-to_sql.ensures, c.params-to_sql-2.ensures) at (c.in-Ok.ensures.ok clean)))

pub returns-in-Ok-clause-selects : goal.returns-in-Ok-clause-selects
returns-in-Ok-clause-selects g c =
    selects_all g.S.Store (kept_lasts g.S.Store) text.find_digest_text (Words c.args.game.now ∷ Words c.args.power.now ∷ []) c.args.conn.now c.query_all.new.self means.find_digest.means.1 (rw (c.params-to_sql.ensures, c.params-to_sql-2.ensures) at c.query_all.ensures.survives) c.query_all.ensures.mode _ c.in-Ok.rows.items _ (rw (c.params-to_sql.ensures, c.params-to_sql-2.ensures) at c.in-Ok.ensures.ok)

pub returns-in-Err : goal.returns-in-Err
returns-in-Err g c = record {
  value = λ _ _. tt;
  selects =
      selects_all_err g.S.Store (kept_lasts g.S.Store) text.find_digest_text (Words c.args.game.now ∷ Words c.args.power.now ∷ []) c.args.conn.now c.query_all.new.self means.find_digest.means.1 (rw (c.params-to_sql.ensures, c.params-to_sql-2.ensures) at c.query_all.ensures.survives) c.query_all.ensures.mode _ c.in-Err.error (rw (c.params-to_sql.ensures, c.params-to_sql-2.ensures) at c.in-Err.ensures.err);
  caused = λ kept shows clean.
      fails_caused text.find_digest_text (Words c.args.game.now ∷ Words c.args.power.now ∷ []) 2 4 by_two text.find_digest_shown [] _ means.find_digest (accepted.find_digest c.args.game.now c.args.power.now) refl _ _ kept.good.schema kept.unlimited shows.1
      c.in-Err.error (rw (c.params-to_sql.ensures, c.params-to_sql-2.ensures) at (c.in-Err.ensures.err clean));
}
