-- After the last of the tables the database is one of ours, without a row.
use Rattle.std.proofs.Common.{ℕ, [], Ok, subst}
use Rattle.sqlite.specs.Schema.{Schema}
use Rattle.sqlite.specs.State.{State, Executes}
use Rattle.dip_store_sql.specs.NewTables.{IsBare}
use Rattle.dip_store_sql.specs.Creating.{create_choice}
use Rattle.dip_store_sql.proofs.Created.{all_made, choice_made}
use Rattle.dip_store_sql.specs.TablesAfter.{no_tables}
use Rattle.dip_store_sql.proofs.New.{bare_good}
use Rattle.dip_store_schema.specs.Making.{HasFirst, HasTables}

pub last_made : (old new : State) (count : ℕ) → HasFirst 9 old.now → Executes create_choice [] old new (Ok count) → HasTables no_tables new.now
last_made old new count bare h =
    let it = choice_made old new count bare h in
    bare_good new.now (subst (λ (s : Schema). IsBare s new.now) all_made it.0) it.1
