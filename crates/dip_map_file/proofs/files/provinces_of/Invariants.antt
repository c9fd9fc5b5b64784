use Rattle.std.proofs.Common.{◌≡◌}
use Rattle.toml.specs.View.{members_view}
use Rattle.dip_map_file.specs.Fields.{each_member}
use Rattle.dip_map_file.specs.Files.{province_at}
use Rattle.dip_map_file.proofs.Front.{with_front}
use Rattle.dip_map_file.proofs.files.provinces_of.Given as goal

abbrev pub invariant-loop-code : goal.invariant-loop-code
invariant-loop-code l =
    (goal.iterator-loop-code).can_next l.code-iterator × (goal.iterator-loop-code).is_finite l.code-iterator
    × (with_front l.provinces.items (each_member province_at (members_view l.code-iterator)) ≡ each_member province_at (members_view l.lands.entries))
