use Rattle.std.proofs.Common.{length}
use Rattle.dip_desk_memory.proofs.recording.+deliver.Given as goal

abbrev pub decreases-deliver : goal.decreases-deliver
decreases-deliver l = length l.seats.now
