use Rattle.sqlite.specs.Held.{state}
use Rattle.dip_store_sql.specs.Creating.{create_choice}
use Rattle.dip_store_sql.specs.TablesAfter.{no_tables}
use Rattle.dip_store_schema.specs.Making.{HasFirst, HasTables}
use Rattle.dip_store_sql.proofs.Founded.{choice_caused}
use Rattle.dip_store_sql.specs.Old.{HasNine, old_tables_of}
use Rattle.dip_store_sql.proofs.Grown.{choice_over, choice_over_caused}
use Rattle.dip_store_schema.proofs.Leading.{leads_one}
use Rattle.dip_store_schema.specs.Rewriting.{HasBallotsOver, Stands}
use Rattle.dip_store_schema.proofs.Refilling.{choices_made}
use Rattle.dip_store_schema.proofs.Trying.{tries_one}
use Rattle.dip_store_schema.proofs.LastMade.{last_made}
use Rattle.dip_store_schema.proofs.creating.create_choice.Goals as goal

pub returns-clause-leads : goal.returns-clause-leads
returns-clause-leads g c =
    leads_one g.S.Store create_choice (HasFirst 9) (HasTables no_tables) c.args.tx.now.conn.now c.execute.new.self.conn.now c.execute.result
    c.execute.ensures.survives c.execute.ensures.ended c.execute.ensures.runs (last_made _ _)

pub returns-clause-tries : goal.returns-clause-tries
returns-clause-tries g c =
    tries_one create_choice (HasFirst 9) (HasTables no_tables) (state g.S.Store c.args.tx.now.conn.now) (state g.S.Store c.execute.new.self.conn.now) c.execute.result
    c.execute.ensures.survives c.execute.ensures.runs (last_made _ _) (λ e set h. choice_caused _ _ set.now.schema_is set.up e h)

pub returns-clause-over : goal.returns-clause-over
returns-clause-over g c t =
    leads_one g.S.Store create_choice (HasNine t) (HasTables t) c.args.tx.now.conn.now c.execute.new.self.conn.now c.execute.result
    c.execute.ensures.survives c.execute.ensures.ended c.execute.ensures.runs (choice_over t _ _)

pub returns-clause-tries_over : goal.returns-clause-tries_over
returns-clause-tries_over g c old =
    tries_one create_choice (HasBallotsOver old) (Stands old (old_tables_of old.trees)) (state g.S.Store c.args.tx.now.conn.now) (state g.S.Store c.execute.new.self.conn.now) c.execute.result
    c.execute.ensures.survives c.execute.ensures.runs (choices_made old _ _) (λ e set h. choice_over_caused (old_tables_of old.trees) _ _ set.now.has set.up e h)
