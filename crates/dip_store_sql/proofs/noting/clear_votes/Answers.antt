use Rattle.std.proofs.Common.{[], map, refl}
use Rattle.dip_store_sql.specs.Statements as text
use Rattle.dip_store_sql.proofs.Texts as means
use Rattle.dip_store_sql.proofs.Stating as made
use Rattle.dip_store_sql.specs.Schema.{seat_table}
use Rattle.dip_store_sql.specs.Storing.{voteless_row}
use Rattle.dip_store_sql.proofs.Calls.{does_one, stores_one}
use Rattle.dip_store_sql.proofs.Storing.{votes_alone}
use Rattle.dip_store_sql.proofs.Wants as want
use Rattle.dip_store_sql.proofs.noting.clear_votes.Goals as goal

pub returns-clause-does : goal.returns-clause-does
returns-clause-does g c =
    does_one g.S.Store text.clear_votes_text [] _ _ c.args.tx.now.conn.now c.execute.new.self.conn.now _ means.clear_votes.0 refl c.execute.result c.execute.ensures.survives c.execute.ensures.ended
    c.execute.ensures.runs
    (λ count good h. made.clear_votes _ _ count good h) (λ e ready keep h. want.clear_votes _ _ ready.good ready.up ready.unlimited e h)

pub returns-clause-stores : goal.returns-clause-stores
returns-clause-stores g c =
    stores_one text.clear_votes_text [] _ _ _ means.clear_votes.0 refl _ seat_table (λ db. map voteless_row (db 4)) c.execute.result c.execute.ensures.runs
    (λ e ready may fits h. want.fits_votes _ _ ready.good ready.up ready.unlimited e fits h) (λ count ready h. votes_alone _ _ count ready.good h)
