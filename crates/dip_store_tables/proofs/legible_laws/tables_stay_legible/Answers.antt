use Rattle.dip_store_tables.proofs.Stays as stays
use Rattle.dip_store_tables.proofs.legible_laws.tables_stay_legible.Goals as goal

pub returns : goal.returns
returns g m = stays.tables_stay_legible m
