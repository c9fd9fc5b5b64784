use Rattle.sqlite.specs.Held.{state}
use Rattle.dip_store_sql.specs.Creating.{create_paper}
use Rattle.dip_store_schema.specs.Making.{HasFirst}
use Rattle.dip_store_sql.proofs.Created.{paper_made}
use Rattle.dip_store_sql.proofs.Founded.{paper_caused}
use Rattle.dip_store_schema.proofs.Leading.{leads_one}
use Rattle.dip_store_schema.proofs.Trying.{tries_one}
use Rattle.dip_store_schema.proofs.creating.create_paper.Goals as goal

pub returns-clause-leads : goal.returns-clause-leads
returns-clause-leads g c =
    leads_one g.S.Store create_paper (HasFirst 7) (HasFirst 8) c.args.tx.now.conn.now c.execute.new.self.conn.now c.execute.result
    c.execute.ensures.survives c.execute.ensures.ended c.execute.ensures.runs (λ count bare h. (paper_made _ _ count bare h).0)

pub returns-clause-tries : goal.returns-clause-tries
returns-clause-tries g c =
    tries_one create_paper (HasFirst 7) (HasFirst 8) (state g.S.Store c.args.tx.now.conn.now) (state g.S.Store c.execute.new.self.conn.now) c.execute.result
    c.execute.ensures.survives c.execute.ensures.runs (λ count bare h. (paper_made _ _ count bare h).0) (λ e set h. paper_caused _ _ set.now.schema_is set.up e h)
