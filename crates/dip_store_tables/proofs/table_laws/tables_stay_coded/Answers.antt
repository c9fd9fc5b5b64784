use Rattle.dip_store_tables.proofs.Coded as coded
use Rattle.dip_store_tables.proofs.table_laws.tables_stay_coded.Goals as goal

pub returns : goal.returns
returns g m = coded.tables_stay_coded m
