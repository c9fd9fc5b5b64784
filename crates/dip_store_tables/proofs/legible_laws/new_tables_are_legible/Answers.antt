use Rattle.dip_store_tables.proofs.Spelled.{none}
use Rattle.dip_store_tables.proofs.legible_laws.new_tables_are_legible.Goals as goal

pub returns : goal.returns
returns g map_sum digest = record { desk = (none, tt); seats = tt; pending = tt; boxes = tt; papers = tt }
