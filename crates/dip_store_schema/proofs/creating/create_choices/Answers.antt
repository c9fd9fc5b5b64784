use Rattle.std.proofs.Common.{◌≡◌, ℕ}
use Rattle.sqlite.specs.declared.error.Error.{Error}
use Rattle.dip_store_sql.specs.Old.{HasNine, HasOld, old_tables_of}
use Rattle.dip_store_sql.proofs.Parts.{went}
use Rattle.dip_store_schema.specs.Making.{HasTables}
use Rattle.dip_store_schema.specs.Rewriting.{HasBallotsOver, Stands}
use Rattle.dip_store_schema.proofs.Leading.{leads_ok, leads_then}
use Rattle.dip_store_schema.proofs.Trying.{tries_ok, tries_then}
use Rattle.dip_store_schema.proofs.creating.create_choices.Goals as goal

pub returns-clause-over : goal.returns-clause-over
returns-clause-over g c t =
    leads_ok (HasOld t) (HasTables t) _ _ c.in_ok-create_choice.field-0 tt
    (leads_then (HasOld t) (HasNine t) (HasTables t) _ _ _ c.in_ok-create_ballot.field-0 (went ℕ Error c.in_ok-create_choice.field-0) (c.in_ok-create_ballot.ensures.over t) (c.in_ok-create_choice.ensures.over t))

pub returns-clause-tries_over : goal.returns-clause-tries_over
returns-clause-tries_over g c old good =
    let So = Stands old (old_tables_of old.trees) in
    tries_ok (λ db. db ≡ old) So _ _ c.in_ok-create_choice.field-0 tt
    (tries_then (λ db. db ≡ old) (HasBallotsOver old) So _ _ _ c.in_ok-create_ballot.field-0 (c.in_ok-create_ballot.ensures.tries_over old good) (went ℕ Error c.in_ok-create_choice.field-0) (c.in_ok-create_choice.ensures.tries_over old))
