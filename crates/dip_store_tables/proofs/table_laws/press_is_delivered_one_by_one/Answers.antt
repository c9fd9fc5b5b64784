use Rattle.dip_store_tables.proofs.Deliveries.{one_by_one}
use Rattle.dip_store_tables.proofs.table_laws.press_is_delivered_one_by_one.Goals as goal

pub returns : goal.returns
returns g m = one_by_one m
