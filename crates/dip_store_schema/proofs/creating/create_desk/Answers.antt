use Rattle.sqlite.specs.Held.{state}
use Rattle.dip_store_sql.specs.Creating.{create_desk}
use Rattle.dip_store_schema.specs.Making.{HasFirst}
use Rattle.dip_store_sql.proofs.Created.{desk_made}
use Rattle.dip_store_sql.proofs.Founded.{desk_caused}
use Rattle.dip_store_schema.proofs.Leading.{leads_one}
use Rattle.dip_store_schema.proofs.Trying.{tries_one}
use Rattle.dip_store_schema.proofs.creating.create_desk.Goals as goal

pub returns-clause-leads : goal.returns-clause-leads
returns-clause-leads g c =
    leads_one g.S.Store create_desk (HasFirst 0) (HasFirst 1) c.args.tx.now.conn.now c.execute.new.self.conn.now c.execute.result
    c.execute.ensures.survives c.execute.ensures.ended c.execute.ensures.runs (λ count bare h. (desk_made _ _ count bare h).0)

pub returns-clause-tries : goal.returns-clause-tries
returns-clause-tries g c =
    tries_one create_desk (HasFirst 0) (HasFirst 1) (state g.S.Store c.args.tx.now.conn.now) (state g.S.Store c.execute.new.self.conn.now) c.execute.result
    c.execute.ensures.survives c.execute.ensures.runs (λ count bare h. (desk_made _ _ count bare h).0) (λ e set h. desk_caused _ _ set.now.schema_is set.up e h)
