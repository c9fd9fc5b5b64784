use Rattle.std.proofs.Common.{◌≡◌, drop}
use Rattle.dip_map_text.specs.Stated.{each, shore_at}
use Rattle.dip_map_file.proofs.Front.{with_front}
use Rattle.dip_map_text.proofs.stated.each_shore_of.Given as goal

abbrev pub invariant-loop-shore : goal.invariant-loop-shore
invariant-loop-shore l =
    with_front l.found.items (each (shore_at l.draft) (drop l.shore-index l.shores)) ≡ each (shore_at l.draft) l.shores
