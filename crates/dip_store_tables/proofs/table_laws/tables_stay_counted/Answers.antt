use Rattle.dip_store_tables.proofs.Counts as counts
use Rattle.dip_store_tables.proofs.table_laws.tables_stay_counted.Goals as goal

pub returns : goal.returns
returns g m = counts.tables_stay_counted m
