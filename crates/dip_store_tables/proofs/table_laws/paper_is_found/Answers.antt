use Rattle.dip_store_tables.proofs.Pages as pages
use Rattle.dip_store_tables.proofs.table_laws.paper_is_found.Goals as goal

pub returns : goal.returns
returns g m = pages.paper_is_found m
