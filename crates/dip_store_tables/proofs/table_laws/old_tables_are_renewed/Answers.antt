use Rattle.dip_store_tables.proofs.Renewing as renewing
use Rattle.dip_store_tables.proofs.table_laws.old_tables_are_renewed.Goals as goal

pub returns : goal.returns
returns g m = renewing.old_tables_are_renewed m
