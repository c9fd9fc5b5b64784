use Rattle.std.proofs.Common.{[], map, refl}
use Rattle.dip_store_sql.specs.Statements as text
use Rattle.dip_store_sql.proofs.Texts as means
use Rattle.dip_store_sql.proofs.Stating as made
use Rattle.dip_store_sql.specs.Schema.{desk_table}
use Rattle.dip_store_sql.specs.Storing.{second_row}
use Rattle.dip_store_sql.proofs.Calls.{does_one, stores_one}
use Rattle.dip_store_sql.proofs.Storing.{version_alone}
use Rattle.dip_store_sql.proofs.Wants as want
use Rattle.dip_store_sql.proofs.noting.set_version.Goals as goal

pub returns-clause-does : goal.returns-clause-does
returns-clause-does g c =
    does_one g.S.Store text.set_version_text [] _ _ c.args.tx.now.conn.now c.execute.new.self.conn.now _ means.set_version.0 refl c.execute.result c.execute.ensures.survives c.execute.ensures.ended
    c.execute.ensures.runs
    (λ count good h. made.set_version _ _ count good h) (λ e ready keep h. want.set_version _ _ ready.good ready.up ready.unlimited e h)

pub returns-clause-stores : goal.returns-clause-stores
returns-clause-stores g c =
    stores_one text.set_version_text [] _ _ _ means.set_version.0 refl _ desk_table (λ db. map second_row (db 0)) c.execute.result c.execute.ensures.runs
    (λ e ready may fits h. want.fits_version _ _ ready.good ready.up ready.unlimited e fits h) (λ count ready h. version_alone _ _ count ready.good h)
