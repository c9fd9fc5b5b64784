use Rattle.dip_store_memory.proofs.Idling.{begun}
use Rattle.dip_store_memory.proofs.idle.IdleSeats.begin.Goals as goal

pub returns : goal.returns
returns c = begun c.put.result c.args.game.now _ c.args.self.now c.make_room.new.self c.put.new.self c.make_room.ensures c.put.ensures.ok c.put.ensures.err
