use Rattle.std.proofs.Common.{◌≡◌}
use Rattle.toml.specs.View.{members_view}
use Rattle.dip_map_file.specs.Fields.{each_member}
use Rattle.dip_map_file.specs.Files.{shore_at}
use Rattle.dip_map_file.proofs.Front.{with_front}
use Rattle.dip_map_file.proofs.files.each_shore.Given as goal

abbrev pub invariant-loop-name : goal.invariant-loop-name
invariant-loop-name l =
    (goal.iterator-loop-name).can_next l.name-iterator × (goal.iterator-loop-name).is_finite l.name-iterator
    × (with_front l.shores.items (each_member shore_at (members_view l.name-iterator)) ≡ each_member shore_at (members_view l.coasts.entries))
