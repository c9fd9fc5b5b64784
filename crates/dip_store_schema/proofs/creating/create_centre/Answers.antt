use Rattle.sqlite.specs.Held.{state}
use Rattle.dip_store_sql.specs.Creating.{create_centre}
use Rattle.dip_store_schema.specs.Making.{HasFirst}
use Rattle.dip_store_sql.proofs.Created.{centre_made}
use Rattle.dip_store_sql.proofs.Founded.{centre_caused}
use Rattle.dip_store_schema.proofs.Leading.{leads_one}
use Rattle.dip_store_schema.proofs.Trying.{tries_one}
use Rattle.dip_store_schema.proofs.creating.create_centre.Goals as goal

pub returns-clause-leads : goal.returns-clause-leads
returns-clause-leads g c =
    leads_one g.S.Store create_centre (HasFirst 4) (HasFirst 5) c.args.tx.now.conn.now c.execute.new.self.conn.now c.execute.result
    c.execute.ensures.survives c.execute.ensures.ended c.execute.ensures.runs (λ count bare h. (centre_made _ _ count bare h).0)

pub returns-clause-tries : goal.returns-clause-tries
returns-clause-tries g c =
    tries_one create_centre (HasFirst 4) (HasFirst 5) (state g.S.Store c.args.tx.now.conn.now) (state g.S.Store c.execute.new.self.conn.now) c.execute.result
    c.execute.ensures.survives c.execute.ensures.runs (λ count bare h. (centre_made _ _ count bare h).0) (λ e set h. centre_caused _ _ set.now.schema_is set.up e h)
