use Rattle.dip_store_tables.proofs.Found as found
use Rattle.dip_store_tables.proofs.table_laws.public_is_found.Goals as goal

pub returns : goal.returns
returns g m = found.public_is_found m
