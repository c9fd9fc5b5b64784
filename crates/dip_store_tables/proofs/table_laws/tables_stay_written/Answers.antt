use Rattle.dip_store_tables.proofs.Written as written
use Rattle.dip_store_tables.proofs.table_laws.tables_stay_written.Goals as goal

pub returns : goal.returns
returns g m = written.tables_stay_written m
