use Rattle.dip_store_changes.proofs.Handing.{each_seat}
use Rattle.dip_store_changes.proofs.delivering.readers_are_seats.Goals as goal

pub returns : goal.returns
returns c m = each_seat m
