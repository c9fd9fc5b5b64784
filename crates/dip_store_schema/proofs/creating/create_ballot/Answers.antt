use Rattle.std.proofs.Common.{◌≡◌}
use Rattle.sqlite.specs.Held.{state}
use Rattle.dip_store_sql.specs.Creating.{create_ballot}
use Rattle.dip_store_schema.specs.Making.{HasFirst}
use Rattle.dip_store_sql.proofs.Created.{ballot_made}
use Rattle.dip_store_sql.proofs.Founded.{ballot_caused}
use Rattle.dip_store_sql.specs.Old.{HasNine, HasOld}
use Rattle.dip_store_sql.proofs.Grown.{ballot_over}
use Rattle.dip_store_schema.proofs.Leading.{leads_one}
use Rattle.dip_store_schema.specs.Rewriting.{HasBallotsOver}
use Rattle.dip_store_schema.proofs.Refilling.{ballots_cause, ballots_made}
use Rattle.dip_store_schema.proofs.Trying.{tries_one}
use Rattle.dip_store_schema.proofs.creating.create_ballot.Goals as goal

pub returns-clause-leads : goal.returns-clause-leads
returns-clause-leads g c =
    leads_one g.S.Store create_ballot (HasFirst 8) (HasFirst 9) c.args.tx.now.conn.now c.execute.new.self.conn.now c.execute.result
    c.execute.ensures.survives c.execute.ensures.ended c.execute.ensures.runs (λ count bare h. (ballot_made _ _ count bare h).0)

pub returns-clause-tries : goal.returns-clause-tries
returns-clause-tries g c =
    tries_one create_ballot (HasFirst 8) (HasFirst 9) (state g.S.Store c.args.tx.now.conn.now) (state g.S.Store c.execute.new.self.conn.now) c.execute.result
    c.execute.ensures.survives c.execute.ensures.runs (λ count bare h. (ballot_made _ _ count bare h).0) (λ e set h. ballot_caused _ _ set.now.schema_is set.up e h)

pub returns-clause-over : goal.returns-clause-over
returns-clause-over g c t =
    leads_one g.S.Store create_ballot (HasOld t) (HasNine t) c.args.tx.now.conn.now c.execute.new.self.conn.now c.execute.result
    c.execute.ensures.survives c.execute.ensures.ended c.execute.ensures.runs (ballot_over t _ _)

pub returns-clause-tries_over : goal.returns-clause-tries_over
returns-clause-tries_over g c old good =
    tries_one create_ballot (λ db. db ≡ old) (HasBallotsOver old) (state g.S.Store c.args.tx.now.conn.now) (state g.S.Store c.execute.new.self.conn.now) c.execute.result
    c.execute.ensures.survives c.execute.ensures.runs (ballots_made old good _ _) (λ e set h. ballots_cause old good _ _ set.now set.up e h)
