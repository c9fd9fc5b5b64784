use Rattle.std.proofs.Common.{[], refl}
use Rattle.sqlite.specs.Held.{state}
use Rattle.dip_store_sql.specs.Asking.{by_first}
use Rattle.dip_store_sql.specs.Statements as text
use Rattle.dip_store_sql.proofs.Accepted as accepted
use Rattle.dip_store_sql.proofs.Texts as means
use Rattle.dip_store_sql.proofs.Blamed.{queries_blamed}
use Rattle.dip_store_sql.proofs.Found.{fails_caused}
use Rattle.dip_store_sql.proofs.Fronts as whole
use Rattle.dip_store_sql.proofs.Selecting.{kept_lasts, old_lasts, selects_all, selects_all_err}
use Rattle.dip_store_sql.proofs.Answering as answers
use Rattle.dip_store_sql.proofs.lookups.find_desk.Goals as goal

pub returns-in-Ok-clause-new : goal.returns-in-Ok-clause-new
returns-in-Ok-clause-new g c = record {
  value = λ kept clean. c.only.ensures _ (answers.find_desk _ _ kept.good c.in-Ok.rows.items (c.in-Ok.ensures.ok clean));
  selects =
      selects_all g.S.Store (kept_lasts g.S.Store) text.find_desk_text ([]) c.args.conn.now c.query_all.new.self means.find_desk.means.1 c.query_all.ensures.survives c.query_all.ensures.mode _ c.in-Ok.rows.items _ c.in-Ok.ensures.ok;
  caused = λ _ _ _. tt;
}

pub returns-in-Ok-clause-old : goal.returns-in-Ok-clause-old
returns-in-Ok-clause-old g c = record {
  value = λ kept clean. c.only.ensures _ (answers.find_old_desk _ _ kept.good c.in-Ok.rows.items (c.in-Ok.ensures.ok clean));
  selects =
      selects_all g.S.Store (old_lasts g.S.Store) text.find_desk_text [] c.args.conn.now c.query_all.new.self means.find_old_desk.means.1 c.query_all.ensures.survives c.query_all.ensures.mode _ c.in-Ok.rows.items _ c.in-Ok.ensures.ok;
  caused = λ _ _ _. tt;
}

pub returns-in-Err : goal.returns-in-Err
returns-in-Err g c = record {
  new = record {
    value = λ _ _. tt;
    selects =
        selects_all_err g.S.Store (kept_lasts g.S.Store) text.find_desk_text ([]) c.args.conn.now c.query_all.new.self means.find_desk.means.1 c.query_all.ensures.survives c.query_all.ensures.mode _ c.in-Err.error c.in-Err.ensures.err;
    caused = λ kept shows clean.
        fails_caused text.find_desk_text ([]) 0 0 by_first text.find_desk_shown [] _ means.find_desk accepted.find_desk refl _ _ kept.good.schema kept.unlimited shows.1
        c.in-Err.error (c.in-Err.ensures.err clean);
  };
  old = record {
    value = λ _ _. tt;
    selects =
        selects_all_err g.S.Store (old_lasts g.S.Store) text.find_desk_text [] c.args.conn.now c.query_all.new.self means.find_old_desk.means.1 c.query_all.ensures.survives c.query_all.ensures.mode _ c.in-Err.error c.in-Err.ensures.err;
    caused = λ kept shows clean.
        fails_caused text.find_desk_text [] 0 0 by_first text.find_desk_shown [] _ means.find_old_desk accepted.find_old_desk refl _ _ kept.good.schema kept.unlimited shows.1
        c.in-Err.error (c.in-Err.ensures.err clean);
  };
  blames = λ shows clean.
      queries_blamed text.find_desk_text [] (state g.S.Store c.args.conn.now) (state g.S.Store c.query_all.new.self) c.in-Err.error shows.1
      (λ k is. (whole.find_desk.reads (state g.S.Store c.args.conn.now).now.schema k is).1.0) (c.in-Err.ensures.err clean);
}
