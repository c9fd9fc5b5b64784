use Rattle.dip_store_tables.proofs.Changes.{state_changed}
use Rattle.dip_store_tables.proofs.table_laws.state_is_changed.Goals as goal

pub returns : goal.returns
returns g m ok = state_changed m ok
