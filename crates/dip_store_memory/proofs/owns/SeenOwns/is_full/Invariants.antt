use Rattle.std.proofs.Common.{◌≡◌, ◌+◌, ◌<◌}
use Rattle.dip_store_memory.specs.Owns.{many_owns}
use Rattle.dip_store_memory.proofs.Owning.{tally}
use Rattle.dip_store_memory.proofs.owns.SeenOwns.is_full.Given as goal

abbrev pub invariant-loop-owns : goal.invariant-loop-owns
invariant-loop-owns l = (l.many < 1024) × (l.many + tally l.owns-iterator ≡ many_owns l.self)
